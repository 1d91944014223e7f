-- What a table means, a map from tags to values as a list in ascending order, and what its calls answer and leave.
use Rattle.std.specs.Prelude.{ℕ, ◌-◌, ◌||◌, cond, List, length, map, take, drop, Ok, Err, Some, None, Option, Result, nat_lt}
use Rattle.model.specs.declared.words.Full.{Full}
use Rattle.model.specs.Maps.{is_there, look_up, enter}
use Rattle.table.specs.declared.table.Table.{Table}
use Rattle.table.specs.declared.tagged.Tagged.{Ghosts}

-- the last element alone, or nothing
abbrev pub last : {X : Type 0} → List X → List X
last xs = drop (length xs - 1) xs

module _ {E V : Type 0} where
  -- an entry as a pair of tag and value
  abbrev pub pair_of : Ghosts E V → E → ℕ × V
  pair_of g e = (g.tag e, g.value e)

  abbrev pub pairs : Ghosts E V → List E → List (ℕ × V)
  pairs g es = map (pair_of g) es

module _ {E V : Type 0} {g : Ghosts E V} where
  -- what lies in the places that are used
  abbrev pub held : Table E V g → List E
  held t = take t.len t.cells.now

  -- the entries that a table means, in order
  abbrev pub entries : Table E V g → List (ℕ × V)
  entries t = pairs g (held t)

  -- what lies in the places after them: the lent memory is held t ++ spare t
  abbrev pub spare : Table E V g → List E
  spare t = drop t.len t.cells.now

  -- how many entries there is room for
  abbrev pub capacity : Table E V g → ℕ
  capacity t = length t.cells.now

module _ {V : Type 0} where
  -- what inserting at the tag k answers, among the entries l with room for n: what stood there, unless k is new and there is no room
  abbrev pub insert_answer : ℕ → ℕ → List (ℕ × V) → Result (Option V) Full
  insert_answer n k l = cond (is_there (look_up l k) || nat_lt (length l) n) (Ok (look_up l k)) (Err (record {}))

  -- the entries that are left with each answer
  abbrev pub insert_entries : Result (Option V) Full → ℕ → V → List (ℕ × V) → List (ℕ × V)
  insert_entries (Ok o) k v l = enter k v l
  insert_entries (Err f) k v l = l

  -- and the spare places: one fewer where an entry was added
  abbrev pub insert_spare : {X : Type 0} → Result (Option V) Full → List X → List X
  insert_spare (Ok None) es = drop 1 es
  insert_spare (Ok (Some v)) es = es
  insert_spare (Err f) es = es
