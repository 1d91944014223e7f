-- Theorems on what stores mean.
use Rattle.std.specs.Prelude.{◌≡◌, ℕ, ◌<◌, ◌≤◌, List, Some, None}
use Rattle.model.specs.declared.words.Record.{Record}
use Rattle.model.specs.Records.{Ascending, record_at, newest}

-- a set of records in its canonical form is determined by its look-ups
abbrev pub LooksDecide : (V : Type 0) → Type 0
LooksDecide V = (l m : List (Record V)) → Ascending l → Ascending m → ((k v : ℕ) → record_at l k v ≡ record_at m k v) → l ≡ m

-- the newest record at or below a bound is the one that stands there at a version above which, up to the bound, none stands
abbrev pub NewestIsGreatest : (V : Type 0) → Type 0
NewestIsGreatest V = (k b v : ℕ) (r : Record V) (l : List (Record V)) → Ascending l → v ≤ b → record_at l k v ≡ Some r → ((w : ℕ) → v < w → w ≤ b → record_at l k w ≡ None) → newest k b l ≡ Some r
