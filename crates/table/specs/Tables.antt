-- What every table has: entries in strictly ascending order, and no more of them than the capacity.
use Rattle.std.specs.Prelude.{◌≡◌, ℕ, suc, ◌<◌, ◌≤◌, List, [], ◌∷◌, ◌++◌, length, slice_index_or}
use Rattle.std.proofs.Common.{arith}
use Rattle.std.proofs.lemmas.List.{length-map, length-take-le, take-append-drop}
use Rattle.model.specs.Maps.{Above, Rising}
use Rattle.table.specs.declared.table.Table.{Table}
use Rattle.table.specs.declared.tagged.Tagged.{Ghosts}
use Rattle.table.specs.Order.{Ascending}
use Rattle.table.specs.Meaning.{pair_of, pairs, held, entries, spare, capacity}

module _ {E V : Type 0} (g : Ghosts E V) where
  above_pairs : (es : List E) (b : ℕ) → ((k : ℕ) (d : E) → k < length es → b < g.tag (slice_index_or es k d)) → Above b (pairs g es)
  above_pairs [] b o = tt
  above_pairs (e ∷ es) b o = (o 0 e (omega arith), above_pairs es b (λ k d l. o (suc k) d (omega arith)))

  pub rising_pairs : (es : List E) → Ascending g.tag es → Rising (pairs g es)
  rising_pairs [] up = tt
  rising_pairs (e ∷ es) up = (above_pairs es (g.tag e) (λ k d l. up 0 (suc k) d (omega arith, omega arith)), rising_pairs es (λ i j d h. up (suc i) (suc j) d (omega arith, omega arith)))

module _ {E V : Type 0} {g : Ghosts E V} where
  -- its entries are in strictly ascending order
  pub entries_rising : (t : Table E V g) → Rising (entries t)
  entries_rising t = rising_pairs g (held t) t.sorted

  -- there are no more of them than the capacity
  pub entries_within : (t : Table E V g) → length (entries t) ≤ capacity t
  entries_within t = let a = length-map (held t) (pair_of g) in let b = length-take-le t.len t.cells.now t.within in let c = t.within in omega arith

  -- used places and spare ones are the whole memory
  pub whole_memory : (t : Table E V g) → held t ++ spare t ≡ t.cells.now
  whole_memory t = take-append-drop t.len t.cells.now
