-- A transaction, under its id.
use Rattle.std.specs.Prelude.{ℕ, Bool, false, cond, ◌||◌, List, [], ◌∷◌, ◌==◌}
use Rattle.model.specs.declared.words.Phase.{Phase}

-- its phase, its keys in order of first write, and how many of them are stamped
pub record Transaction : Type 0 where
  pub phase : Phase
  pub keys : List ℕ
  pub stamped : ℕ

abbrev pub transaction : Phase → List ℕ → ℕ → Transaction
transaction p ks n = record { phase = p; keys = ks; stamped = n }

-- k is one of the keys
abbrev pub member : ℕ → List ℕ → Bool
member k [] = false
member k (x ∷ xs) = k == x || member k xs

-- k is added at the end, unless it is there
abbrev pub with_key : ℕ → List ℕ → List ℕ
with_key k [] = k ∷ []
with_key k (x ∷ xs) = let r = with_key k xs in cond (k == x) (x ∷ xs) (x ∷ r)
