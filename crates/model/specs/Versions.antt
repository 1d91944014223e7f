-- Going down the versions of a key, the highest first: is one pending, which is the greatest stamped number, which the greatest below the floor.
-- A record is pending until it is stamped, that is, has a commit number.
use Rattle.std.specs.Prelude.{ℕ, ◌+◌, max, Bool, true, false, cond, ◌&&◌, ◌||◌, List, [], ◌∷◌, Some, None, Option, ◌==◌, nat_le, nat_lt}
use Rattle.model.specs.declared.words.Record.{Record}
use Rattle.model.specs.Numbers.{last_number}
use Rattle.model.specs.Records.{record_at, drop_record}

abbrev pub is_pending : Option ℕ → Bool
is_pending None = true
is_pending (Some n) = false

-- a stamped number below a floor, or 0
abbrev pub number_below : ℕ → Option ℕ → ℕ
number_below fl None = 0
number_below fl (Some n) = cond (nat_lt n fl) n 0

-- a stamped number below m
abbrev pub number_under : ℕ → Option ℕ → Bool
number_under m None = false
number_under m (Some n) = nat_lt n m

abbrev pub one_if : Bool → ℕ
one_if true = 1
one_if false = 0

module _ {V : Type 0} where
  -- the versions of k at or below a bound, the highest first, in front of some others
  unfoldable pub versions_down : List (Record V) → ℕ → ℕ → List ℕ → List ℕ
  versions_down [] k b acc = acc
  versions_down (r ∷ l) k b acc = versions_down l k b (cond (k == r.key && nat_le r.version b) (r.version ∷ acc) acc)

  -- all versions of k, the highest first
  abbrev pub versions : ℕ → List (Record V) → List ℕ
  versions k l = versions_down l k last_number []

  abbrev pub is_pending_record : Option (Record V) → Bool
  is_pending_record None = false
  is_pending_record (Some r) = is_pending r.number

  -- one of these versions of k is pending
  unfoldable pub pending_among : List (Record V) → ℕ → List ℕ → Bool
  pending_among l k [] = false
  pending_among l k (v ∷ vs) = is_pending_record (record_at l k v) || pending_among l k vs

  -- k has a pending record
  abbrev pub has_pending : ℕ → List (Record V) → Bool
  has_pending k l = pending_among l k (versions k l)

  -- the greater of a stamped number, with its value, and the greatest so far
  abbrev pub greater_of : Option ℕ → V → ℕ × Option V → ℕ × Option V
  greater_of None x p = p
  greater_of (Some n) x p = cond (nat_le p.0 n) (n, Some x) p

  abbrev pub greater_record : Option (Record V) → ℕ × Option V → ℕ × Option V
  greater_record None p = p
  greater_record (Some r) p = greater_of r.number r.value p

  -- the greatest stamped number of these versions of k and its value, where p is the greatest so far
  unfoldable pub greatest_among : List (Record V) → ℕ → List ℕ → ℕ × Option V → ℕ × Option V
  greatest_among l k [] p = p
  greatest_among l k (v ∷ vs) p = greatest_among l k vs (greater_record (record_at l k v) p)

  -- the greatest stamped number of k and its value, or 0 and nothing
  abbrev pub greatest_stamped : ℕ → List (Record V) → ℕ × Option V
  greatest_stamped k l = greatest_among l k (versions k l) (0, None)

  -- the greater of a stamped number below a floor and the greatest so far
  abbrev pub greater_below : ℕ → Option (Record V) → ℕ → ℕ
  greater_below fl None m = m
  greater_below fl (Some r) m = max (number_below fl r.number) m

  unfoldable pub greatest_below_among : List (Record V) → ℕ → ℕ → List ℕ → ℕ → ℕ
  greatest_below_among l k fl [] m = m
  greatest_below_among l k fl (v ∷ vs) m = greatest_below_among l k fl vs (greater_below fl (record_at l k v) m)

  -- the greatest stamped number of k below a floor, or 0
  abbrev pub greatest_below : ℕ → ℕ → List (Record V) → ℕ
  greatest_below k fl l = greatest_below_among l k fl (versions k l) 0

  -- the record of k at the version v goes, if it is pending
  abbrev pub drop_pending : ℕ → ℕ → List (Record V) → List (Record V)
  drop_pending v k l = cond (is_pending_record (record_at l k v)) (drop_record k v l) l

  -- the pending records of the version v at the keys ks go, the first key first
  unfoldable pub drop_pending_all : ℕ → List ℕ → List (Record V) → List (Record V)
  drop_pending_all v [] l = l
  drop_pending_all v (k ∷ ks) l = drop_pending_all v ks (drop_pending v k l)

  -- how many records go so
  unfoldable pub count_pending_all : ℕ → List ℕ → List (Record V) → ℕ
  count_pending_all v [] l = 0
  count_pending_all v (k ∷ ks) l = one_if (is_pending_record (record_at l k v)) + count_pending_all v ks (drop_pending v k l)
