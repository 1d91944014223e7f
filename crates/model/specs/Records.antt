-- What a version store means: a set of records, at most one for a key and version, as a list strictly ascending by key and then version. The operations here
-- are the store's own (count, newest at or below a bound, put, mark, drop); the version store's contracts and the reference database both speak in them.
use Rattle.std.specs.Prelude.{◌≡◌, ℕ, Bool, true, cond, ◌&&◌, ◌||◌, List, [], ◌∷◌, length, Some, None, Option, ◌==◌, nat_le, nat_lt}
use Rattle.model.specs.declared.words.Record.{Record}

module _ {V : Type 0} where
  abbrev pub record_of : ℕ → ℕ → Option ℕ → V → Record V
  record_of k v n x = record { key = k; version = v; number = n; value = x }

  -- r stands at the key k and the version v
  abbrev pub stands : ℕ → ℕ → Record V → Bool
  stands k v r = k == r.key && v == r.version

  -- the place of k and v comes before that of r
  abbrev pub before : ℕ → ℕ → Record V → Bool
  before k v r = nat_lt k r.key || (k == r.key && nat_lt v r.version)

  -- every record of l stands after r
  abbrev pub After : Record V → List (Record V) → Type 0
  After r [] = Unit {0}
  After r (d ∷ l) = (before r.key r.version d ≡ true) × After r l

  -- strictly ascending by key and then version
  abbrev pub Ascending : List (Record V) → Type 0
  Ascending [] = Unit {0}
  Ascending (r ∷ l) = After r l × Ascending l

  -- how many records
  abbrev pub count : List (Record V) → ℕ
  count l = length l

  -- the record of k at the version v
  unfoldable pub record_at : List (Record V) → ℕ → ℕ → Option (Record V)
  record_at [] k v = None
  record_at (r ∷ l) k v = cond (stands k v r) (Some r) (record_at l k v)

  abbrev pub or_else : Option (Record V) → Option (Record V) → Option (Record V)
  or_else None o = o
  or_else (Some r) o = Some r

  -- the record of k of greatest version at or below a bound
  unfoldable pub newest : ℕ → ℕ → List (Record V) → Option (Record V)
  newest k b [] = None
  newest k b (r ∷ l) = or_else (newest k b l) (cond (k == r.key && nat_le r.version b) (Some r) None)

  -- r stands at its key and version, in place of what stood there
  unfoldable pub put : Record V → List (Record V) → List (Record V)
  put r [] = r ∷ []
  put r (c ∷ l) = let m = put r l in cond (stands r.key r.version c) (r ∷ l) (cond (before r.key r.version c) (r ∷ c ∷ l) (c ∷ m))

  -- the record of k at v, if it is there, has the number n
  unfoldable pub mark : ℕ → ℕ → ℕ → List (Record V) → List (Record V)
  mark k v n [] = []
  mark k v n (r ∷ l) = cond (stands k v r) (record_of r.key r.version (Some n) r.value) r ∷ mark k v n l

  -- the record of k at v goes
  unfoldable pub drop_record : ℕ → ℕ → List (Record V) → List (Record V)
  drop_record k v [] = []
  drop_record k v (r ∷ l) = let m = drop_record k v l in cond (stands k v r) m (r ∷ m)
