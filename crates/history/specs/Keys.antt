-- What keys hold after some commits: what these leave, each taken whole, from empty, lowest number first and equal ones in order of acceptance.
use Rattle.std.specs.Prelude.{ℕ, cond, List, [], ◌∷◌, Some, None, Option, nat_le, nat_lt}
use Rattle.history.specs.Past.{Commit}

module _ {V : Type 0} where
  -- the first or, where that is nothing, the second
  abbrev pub or_else : Option V → Option V → Option V
  or_else None o = o
  or_else (Some x) o = Some x

  -- c is put among commits in order, behind every one with a number up to its own
  unfoldable pub insert : Commit V → List (Commit V) → List (Commit V)
  insert c [] = c ∷ []
  insert c (d ∷ ds) = let r = insert c ds in cond (nat_le d.number c.number) (d ∷ r) (c ∷ d ∷ ds)

  -- commits of which the latest stands first, in order: lowest number first and equal ones in order of acceptance
  unfoldable pub in_order : List (Commit V) → List (Commit V)
  in_order [] = []
  in_order (c ∷ cs) = insert c (in_order cs)

  -- what k holds after the commits were applied, the first of the list first, where it held o
  unfoldable pub apply : List (Commit V) → ℕ → Option V → Option V
  apply [] k o = o
  apply (c ∷ cs) k o = apply cs k (or_else (c.values k) o)

  -- what k holds after some commits; a key that none wrote holds nothing
  abbrev pub holds : List (Commit V) → ℕ → Option V
  holds cs k = apply (in_order cs) k None

  -- the commits with numbers below n
  unfoldable pub below : ℕ → List (Commit V) → List (Commit V)
  below n [] = []
  below n (c ∷ cs) = let r = below n cs in cond (nat_lt c.number n) (c ∷ r) r
