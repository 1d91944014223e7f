-- An index: a list of numbers, each the number of a place.
use Rattle.std.specs.Prelude.{◌≢◌, List, [], ◌∷◌, ℕ, map, slice_index_or}
use Rattle.std.specs.List.{AllPairs}
use Rattle.model.specs.declared.words.Record.{Record}

-- no place is named twice
abbrev pub Apart : List ℕ → Type 0
Apart ix = AllPairs (λ i j. i ≢ j) ix

-- the records of the places that the numbers name, in their order
abbrev pub named : {V : Type 0} → List (Record V) → List ℕ → List (Record V)
named [] ix = []
named (r ∷ rs) ix = map (λ i. slice_index_or (r ∷ rs) i r) ix
