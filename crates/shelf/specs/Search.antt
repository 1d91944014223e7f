-- Where a key and version stand among records in order.
use Rattle.std.specs.Prelude.{◌≡◌, ℕ, ◌<◌, ◌≤◌, List, length, Option, Some, None}
use Rattle.std.specs.Ordering.{nat_cmp, ordering_then}
use Rattle.std.specs.declared.cmp.Ordering.{Ordering}
use Rattle.std.specs.declared.cmp.Ordering.TheVariants.{Less, Equal, Greater}
use Rattle.std.specs.List.{HoldsAt}
use Rattle.std.specs.List.Sorted.{IsPartitionPoint}
use Rattle.model.specs.declared.words.Record.{Record}

module _ {V : Type 0} where
  -- how the place of r stands to that of k and v
  abbrev pub standing : ℕ → ℕ → Record V → Ordering
  standing k v r = ordering_then (nat_cmp r.key k) (nat_cmp r.version v)

  -- and of what is at a place; where nothing is, before k and v
  abbrev pub standing_of : ℕ → ℕ → Option (Record V) → Ordering
  standing_of k v None = Less
  standing_of k v (Some r) = standing k v r

  -- k and v stand at p
  pub record Hit (l : List (Record V)) (k v p : ℕ) : Type 0 where
    pub inside : p < length l
    pub there : HoldsAt (λ r. standing k v r ≡ Equal) l p

  -- k and v do not stand there: the records below p come before them, and the others after them
  pub record Miss (l : List (Record V)) (k v p : ℕ) : Type 0 where
    pub inside : p ≤ length l
    pub point : IsPartitionPoint (λ r. standing k v r ≡ Less) (λ r. standing k v r ≡ Greater) l p
