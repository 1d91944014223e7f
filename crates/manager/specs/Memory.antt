-- A conflict table with the low that goes with it.
use Rattle.std.specs.Prelude.{ℕ, List}
use Rattle.model.specs.Managers.{ConflictTable, conflict_table, enter_conflicts}
use Rattle.table.specs.declared.tagged.Entry.{Entry}
use Rattle.table.specs.Meaning.{entries}
use Rattle.manager.specs.Conflicts.{Conflicts, entries_at, places_at, with_entries}
use Rattle.manager.specs.declared.memory.ConflictMemory.{ConflictMemory}

-- a low, and the conflict tables with it
pub record Entering : Type 0 where
  pub low : ℕ
  pub tables : Conflicts

abbrev pub entering : ℕ → Conflicts → Entering
entering l c = record { low = l; tables = c }

-- the keys entered at c in the table of the seat q, which goes with low
abbrev pub entering_of : ℕ → ℕ → List ℕ → ℕ → Conflicts → Entering
entering_of q c ks low t =
    let m : ConflictTable = enter_conflicts (places_at q t) c ks (conflict_table low (entries_at q t)) in
    entering m.low (with_entries q m.conflicts t)

-- an entry as a pair of key and number
abbrev pub pair_of : Entry ℕ → ℕ × ℕ
pair_of e = (e.tag, e.value)

abbrev pub memory : ConflictMemory → ConflictTable
memory m = conflict_table m.low (entries m.table.now)
