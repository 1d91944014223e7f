-- Maps from numbers, as lists of pairs in ascending order of the number. Rows by id, commit entries by id, conflict entries by key and seats are such maps.
use Rattle.std.specs.Prelude.{ℕ, ◌<◌, Bool, true, false, cond, List, [], ◌∷◌, Some, None, Option, ◌==◌, nat_lt}

-- something stands there
abbrev pub is_there : {X : Type 0} → Option X → Bool
is_there None = false
is_there (Some x) = true

-- the number that stands there, or 0
abbrev pub number_or_0 : Option ℕ → ℕ
number_or_0 None = 0
number_or_0 (Some n) = n

module _ {X : Type 0} where
  -- what stands at q
  unfoldable pub look_up : List (ℕ × X) → ℕ → Option X
  look_up [] q = None
  look_up (e ∷ l) q = cond (q == e.0) (Some e.1) (look_up l q)

  -- x stands at k, in place of what stood there
  unfoldable pub enter : ℕ → X → List (ℕ × X) → List (ℕ × X)
  enter k x [] = (k, x) ∷ []
  enter k x (e ∷ l) = let r = enter k x l in cond (k == e.0) ((k, x) ∷ l) (cond (nat_lt k e.0) ((k, x) ∷ e ∷ l) (e ∷ r))

  -- nothing stands at k
  unfoldable pub remove : ℕ → List (ℕ × X) → List (ℕ × X)
  remove k [] = []
  remove k (e ∷ l) = let r = remove k l in cond (k == e.0) r (e ∷ r)

  -- every number of l is above k
  abbrev pub Above : ℕ → List (ℕ × X) → Type 0
  Above k [] = Unit {0}
  Above k (e ∷ l) = (k < e.0) × Above k l

  -- strictly ascending by the number
  abbrev pub Rising : List (ℕ × X) → Type 0
  Rising [] = Unit {0}
  Rising (e ∷ l) = Above e.0 l × Rising l
