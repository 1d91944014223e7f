-- Sweep: of one key, pending records are stamped where they are committed and dropped where they can no longer settle, and then old stamped ones are dropped. What
-- stays below the floor is the greatest number, which a reader at the floor still needs.
use Rattle.std.specs.Prelude.{ℕ, suc, Bool, true, false, List, [], ◌∷◌, Some, None, Option, nat_lt}
use Rattle.model.specs.declared.words.Record.{Record}
use Rattle.model.specs.declared.words.CommitEntry.{CommitEntry}
use Rattle.model.specs.declared.words.CommitEntry.TheVariants.{Committed, Aborted}
use Rattle.model.specs.declared.call.Answer.{Answer}
use Rattle.model.specs.declared.call.Answer.TheVariants.{Number}
use Rattle.model.specs.Maps.{look_up}
use Rattle.model.specs.Records.{record_at, drop_record}
use Rattle.model.specs.Versions.{number_under, versions, greatest_below}
use Rattle.model.specs.State.{State, with_records}
use Rattle.model.specs.Stamping.{stamp_record}

module _ {V : Type 0} where
  -- the record of k at v goes, and counts
  abbrev pub drop_low : ℕ → ℕ → State V → ℕ → Bool → State V × ℕ
  drop_low k v s n true = (with_records (drop_record k v s.records) s, suc n)
  drop_low k v s n false = (s, n)

  -- a pending record, by its entry
  abbrev pub sweep_pending : ℕ → ℕ → State V → ℕ → Option CommitEntry → State V × ℕ
  sweep_pending k v s n (Some (Committed c)) = (stamp_record k v c s, n)
  sweep_pending k v s n (Some Aborted) = drop_low k v s n (nat_lt v s.floor)
  sweep_pending k v s n None = drop_low k v s n (nat_lt v s.floor)

  abbrev pub sweep_number : ℕ → ℕ → State V → ℕ → Option ℕ → State V × ℕ
  sweep_number k v s n None = sweep_pending k v s n (look_up s.entries v)
  sweep_number k v s n (Some m) = (s, n)

  abbrev pub sweep_rec : ℕ → ℕ → State V → ℕ → Option (Record V) → State V × ℕ
  sweep_rec k v s n None = (s, n)
  sweep_rec k v s n (Some r) = sweep_number k v s n r.number

  -- first the pending records, down these versions of k
  unfoldable pub sweep_down : ℕ → List ℕ → State V → ℕ → State V × ℕ
  sweep_down k [] s n = (s, n)
  sweep_down k (v ∷ vs) s n = let p = sweep_rec k v s n (record_at s.records k v) in sweep_down k vs p.0 p.1

  -- then the stamped ones under the number m, down these versions of k
  abbrev pub low_under : ℕ → Option (Record V) → Bool
  low_under m None = false
  low_under m (Some r) = number_under m r.number

  unfoldable pub sweep_under : ℕ → ℕ → List ℕ → State V → ℕ → State V × ℕ
  sweep_under k m [] s n = (s, n)
  sweep_under k m (v ∷ vs) s n = let p = drop_low k v s n (low_under m (record_at s.records k v)) in sweep_under k m vs p.0 p.1

  -- under the greatest number of k below the floor; the answer is how many were dropped in all
  abbrev pub swept : ℕ → State V × ℕ → State V × Answer V
  swept k p =
      let s : State V = p.0 in
      let q = sweep_under k (greatest_below k s.floor s.records) (versions k s.records) s p.1 in
      (q.0, Number q.1)
