-- The conflict tables of both seats.
use Rattle.std.specs.Prelude.{ℕ, cond, List, ◌==◌, if◌then◌else◌, nat_lt}
use Rattle.table.specs.declared.tagged.Entry.{Entry}
use Rattle.table.specs.Meaning.{entries, capacity}
use Rattle.manager.specs.declared.conflicts.ConflictTables.{ConflictTables}

-- the entries of each, and how many places each has
pub record Conflicts : Type 0 where
  pub entries0 : List (ℕ × ℕ)
  pub entries1 : List (ℕ × ℕ)
  pub places0 : ℕ
  pub places1 : ℕ

abbrev pub conflicts_of : ConflictTables → Conflicts
conflicts_of t = record { entries0 = entries t.seat0; entries1 = entries t.seat1; places0 = capacity t.seat0; places1 = capacity t.seat1 }

-- those of a seat
abbrev pub entries_at : ℕ → Conflicts → List (ℕ × ℕ)
entries_at q c = cond (q == 0) c.entries0 c.entries1

abbrev pub places_at : ℕ → Conflicts → ℕ
places_at q c = cond (q == 0) c.places0 c.places1

-- the table of the seat q has the entries l
abbrev pub with_entries : ℕ → List (ℕ × ℕ) → Conflicts → Conflicts
with_entries q l c = record { entries0 = cond (q == 0) l c.entries0; entries1 = cond (q == 0) c.entries1 l; places0 = c.places0; places1 = c.places1 }

-- of two entries the one of lesser number, and the first where they are equal
abbrev pub lesser : Entry ℕ → Entry ℕ → Entry ℕ
lesser d e = if nat_lt e.value d.value then e else d
