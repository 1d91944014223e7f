-- The order of records as a test, in the form that a store can keep beside its memory.
use Rattle.std.specs.Prelude.{Bool, true, ◌&&◌, List, [], ◌∷◌}
use Rattle.model.specs.declared.words.Record.{Record}
use Rattle.model.specs.Records.{before}

module _ {V : Type 0} where
  -- every record of l stands after r
  abbrev pub all_after : Record V → List (Record V) → Bool
  all_after r [] = true
  all_after r (d ∷ l) = before r.key r.version d && all_after r l

  -- strictly ascending by key and then version
  abbrev pub in_order : List (Record V) → Bool
  in_order [] = true
  in_order (r ∷ l) = all_after r l && in_order l
