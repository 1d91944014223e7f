-- Entries in any order, no two of one id, and the map that they mean.
use Rattle.std.specs.Prelude.{◌≡◌, ℕ, ◌+◌, ◌<◌, cond, List, [], ◌∷◌, length, take, Some, None, Option, ◌==◌, slice_index_or, slice_set}
use Rattle.model.specs.Maps.{enter}

-- one place on
abbrev pub later : Option ℕ → Option ℕ
later None = None
later (Some i) = Some (i + 1)

module _ {X : Type 0} where
  -- the map, as a list in ascending order
  abbrev pub arranged : List (ℕ × X) → List (ℕ × X)
  arranged [] = []
  arranged (e ∷ es) = enter e.0 e.1 (arranged es)

  -- no two places have one id
  abbrev pub Distinct : List (ℕ × X) → Type 0
  Distinct es = (i j : ℕ) (d : ℕ × X) → (i < j) × (j < length es) × ((slice_index_or es i d).0 ≡ (slice_index_or es j d).0) → ⊥

  -- the place of the id q
  abbrev pub place_of : List (ℕ × X) → ℕ → Option ℕ
  place_of [] q = None
  place_of (e ∷ es) q = cond (q == e.0) (Some 0) (later (place_of es q))

  -- the list with its last element moved over the one at p
  abbrev pub filled : List (ℕ × X) → ℕ → List (ℕ × X)
  filled [] p = []
  filled (e ∷ es) p = take (length es) (slice_set (e ∷ es) p (slice_index_or (e ∷ es) (length es) e))

  -- without the place p
  abbrev pub without : Option ℕ → List (ℕ × X) → List (ℕ × X)
  without None es = es
  without (Some p) es = filled es p

  -- without the id q: the last element moves into the gap
  abbrev pub drop_id : ℕ → List (ℕ × X) → List (ℕ × X)
  drop_id q es = without (place_of es q) es
