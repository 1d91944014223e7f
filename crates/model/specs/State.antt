-- The reference database: what it holds, opening it, and the ways in which a state is changed.
use Rattle.std.specs.Prelude.{ℕ, ◌+◌, ◌*◌, max, Bool, cond, ◌&&◌, List, [], replicate, Some, None, Ok, Err, Option, Result, ◌==◌}
use Rattle.model.specs.declared.words.Record.{Record}
use Rattle.model.specs.declared.words.CommitEntry.{CommitEntry}
use Rattle.model.specs.declared.call.Opening.{Opening}
use Rattle.model.specs.declared.call.Answer.{Answer}
use Rattle.model.specs.declared.call.Answer.TheVariants.{Denied}
use Rattle.model.specs.declared.refusal.Refusal.{Refusal}
use Rattle.model.specs.declared.refusal.Refusal.TheVariants.{OutsideLimits}
use Rattle.model.specs.Numbers.{U, last_step, from_1_to}
use Rattle.model.specs.Maps.{enter}
use Rattle.model.specs.Classes.{raise_class}
use Rattle.model.specs.Transactions.{Transaction}
use Rattle.model.specs.Managers.{Seat, seat}

-- the cell is the step at which the next span begins, common to both managers;
-- below the fence no transaction writes, validates or settles any more, and below the floor none reads;
-- the classes have the 64 class numbers;
-- a seat that was never taken over is not in the seats; the last that was is in charge;
-- the records are the version store's, the entries the commit table's
pub record State (V : Type 0) : Type 0 where
  pub cell : ℕ
  pub fence : ℕ
  pub floor : ℕ
  pub classes : List ℕ
  pub seats : List (ℕ × Seat)
  pub in_charge : Option ℕ
  pub rows : List (ℕ × Transaction)
  pub records : List (Record V)
  pub entries : List (ℕ × CommitEntry)
  pub opening : Opening

-- the limits of opening
unfoldable pub within : Opening → Bool
within z =
    from_1_to last_step z.first
    && (from_1_to 4096 z.span
    && (from_1_to 64 z.rows
    && (from_1_to 4096 z.conflicts0
    && (from_1_to 4096 z.conflicts1
    && (from_1_to 4096 z.records
    && from_1_to 2000 z.entries)))))

module _ {V : Type 0} where
  -- an empty database
  unfoldable pub fresh : Opening → State V
  fresh z = record { cell = z.first; fence = 0; floor = 0; classes = replicate 64 0; seats = []; in_charge = None; rows = []; records = []; entries = []; opening = z }

  -- opening over a store and a commit table that hold so many records and entries
  unfoldable pub opened : Opening → ℕ → ℕ → Result (State V) Refusal
  opened z m n = cond (within z && (m == 0 && n == 0)) (Ok (fresh z)) (Err OutsideLimits)

  -- a denied call: nothing changes
  abbrev pub deny : State V → Refusal → State V × Answer V
  deny s w = (s, Denied w)

  -- what changes in a state when its rows, its entries, its records or its class numbers do
  abbrev pub with_rows : List (ℕ × Transaction) → State V → State V
  with_rows r s = record { cell = s.cell; fence = s.fence; floor = s.floor; classes = s.classes; seats = s.seats; in_charge = s.in_charge; rows = r; records = s.records; entries = s.entries; opening = s.opening }

  abbrev pub with_entries : List (ℕ × CommitEntry) → State V → State V
  with_entries e s = record { cell = s.cell; fence = s.fence; floor = s.floor; classes = s.classes; seats = s.seats; in_charge = s.in_charge; rows = s.rows; records = s.records; entries = e; opening = s.opening }

  abbrev pub with_records : List (Record V) → State V → State V
  with_records l s = record { cell = s.cell; fence = s.fence; floor = s.floor; classes = s.classes; seats = s.seats; in_charge = s.in_charge; rows = s.rows; records = l; entries = s.entries; opening = s.opening }

  abbrev pub with_classes : List ℕ → State V → State V
  with_classes c s = record { cell = s.cell; fence = s.fence; floor = s.floor; classes = c; seats = s.seats; in_charge = s.in_charge; rows = s.rows; records = s.records; entries = s.entries; opening = s.opening }

  -- the seat q and the cell, after a step was taken
  abbrev pub with_seat : ℕ → Seat → ℕ → State V → State V
  with_seat q t c s = record { cell = c; fence = s.fence; floor = s.floor; classes = s.classes; seats = enter q t s.seats; in_charge = s.in_charge; rows = s.rows; records = s.records; entries = s.entries; opening = s.opening }

  -- floor and fence raised to at least h
  abbrev pub with_floor : ℕ → State V → State V
  with_floor h s = record { cell = s.cell; fence = max s.fence h; floor = max s.floor h; classes = s.classes; seats = s.seats; in_charge = s.in_charge; rows = s.rows; records = s.records; entries = s.entries; opening = s.opening }

  -- the seat q takes over
  abbrev pub taken_over : ℕ → State V → State V
  taken_over q s = record { cell = s.cell + s.opening.span; fence = max s.fence (s.cell * U); floor = s.floor; classes = s.classes; seats = enter q (seat s.cell (s.cell + s.opening.span) (s.cell * U) []) s.seats; in_charge = Some q; rows = s.rows; records = s.records; entries = s.entries; opening = s.opening }

  -- the class number of k raised to at least n
  abbrev pub raise_class_of : ℕ → ℕ → State V → State V
  raise_class_of k n s = with_classes (raise_class k n s.classes) s
