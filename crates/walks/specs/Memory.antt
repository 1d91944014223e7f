-- The memory that reads and sweeps change.
use Rattle.std.specs.Prelude.{ℕ, List}
use Rattle.model.specs.declared.words.Record.{Record}
use Rattle.model.specs.declared.words.CommitEntry.{CommitEntry}
use Rattle.model.specs.State.{State, with_entries}
use Rattle.version_store.specs.declared.store.VersionStore as store
use Rattle.commit_table.specs.declared.CommitTable as table
use Rattle.versions.specs.declared.classes.ClassNumbers.{ClassNumbers}
use Rattle.versions.specs.Meaning.{numbers_of, with_versions}

-- the state s with these class numbers, these records and these entries
abbrev pub with_memory : {V : Type 0} → List ℕ → List (Record V) → List (ℕ × CommitEntry) → State V → State V
with_memory c l e s = with_entries e (with_versions c l s)

-- the state s with what class numbers, a version store and a commit table hold
abbrev pub with_lent : {S C V : Type 0} → ClassNumbers → store.Ghosts S V → S → table.Ghosts C → C → State V → State V
with_lent n m x t y s = with_memory (numbers_of n) (m.records x) (t.entries y) s
