-- The reference database that an engine means, together with what it is lent.
use Rattle.std.specs.Prelude.{ℕ, Bool, ◌&&◌, List, Ok, Err, Result}
use Rattle.model.specs.declared.words.Record.{Record}
use Rattle.model.specs.declared.words.CommitEntry.{CommitEntry}
use Rattle.model.specs.declared.refusal.Refusal.{Refusal}
use Rattle.model.specs.declared.call.Opening.{Opening}
use Rattle.model.specs.Numbers.{from_1_to}
use Rattle.model.specs.State.{State}
use Rattle.version_store.specs.declared.store.VersionStore as store
use Rattle.commit_table.specs.declared.CommitTable as table
use Rattle.manager.specs.declared.conflicts.ConflictTables.{ConflictTables}
use Rattle.manager.specs.Conflicts.{conflicts_of}
use Rattle.manager.specs.Meaning.{numbers, seats}
use Rattle.versions.specs.Meaning.{numbers_of}
use Rattle.engine.specs.declared.engine.Engine.{Engine}
use Rattle.engine.specs.declared.rows.Rows.{Rows}
use Rattle.engine.specs.declared.tables.Tables.{Tables}
use Rattle.engine.specs.Transactions.{rows_of, places}

-- what a host lends, as this row table and these conflict tables
abbrev pub lent : Rows → ConflictTables → Tables
lent r k = record { rows = r; conflicts = k }

-- what a database is opened with: the first step, the span, and the places of what it is lent (the store has n, the commit table m)
abbrev pub opening : ℕ → ℕ → Tables → ℕ → ℕ → Opening
opening first span t n m = record { first = first; span = span; rows = places t.rows; conflicts0 = (conflicts_of t.conflicts).places0; conflicts1 = (conflicts_of t.conflicts).places1; records = n; entries = m }

-- the limits of opening that are on these places
abbrev pub places_fit : Opening → Bool
places_fit z = from_1_to 64 z.rows && (from_1_to 4096 z.conflicts0 && (from_1_to 4096 z.conflicts1 && (from_1_to 4096 z.records && from_1_to 2000 z.entries)))

-- the engine e with its tables, the records l of a store with n places, and the entries es of a commit table with m
abbrev pub meant : {V : Type 0} → Engine → Tables → List (Record V) → ℕ → List (ℕ × CommitEntry) → ℕ → State V
meant e t l n es m = record {
  cell = (numbers e.managers).cell;
  fence = e.fence;
  floor = e.floor;
  classes = numbers_of e.classes;
  seats = seats (numbers e.managers) (conflicts_of t.conflicts);
  in_charge = (numbers e.managers).charge;
  rows = rows_of t.rows;
  records = l;
  entries = es;
  opening = opening e.first (numbers e.managers).span t n m;
}

module _ {S C V : Type 0} where
  -- the engine e with its tables, a version store x and a commit table y
  abbrev pub database : Engine → Tables → store.Ghosts S V → S → table.Ghosts C → C → State V
  database e t s x c y = meant e t (s.records x) (s.capacity x) (c.entries y) (c.capacity y)

  -- the database that was opened, or the refusal
  abbrev pub opened_as : Result Engine Refusal → Tables → store.Ghosts S V → S → table.Ghosts C → C → Result (State V) Refusal
  opened_as (Ok e) t s x c y = Ok (database e t s x c y)
  opened_as (Err w) t s x c y = Err w
