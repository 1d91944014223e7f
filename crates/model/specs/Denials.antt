-- What a denied call leaves: the state as it was. Only a read that is denied for want of a commit entry (refusal 15) has worked before, at the versions above the one
-- that lacks its entry, and exactly that work remains.
use Rattle.std.specs.Prelude.{◌≡◌, ℕ, cond, ◌⊎◌, List, [], ◌∷◌, ◌++◌, Some, None, Option, nat_lt}
use Rattle.model.specs.declared.words.Record.{Record}
use Rattle.model.specs.declared.words.CommitEntry.{CommitEntry}
use Rattle.model.specs.declared.words.CommitEntry.TheVariants.{Committed, Aborted}
use Rattle.model.specs.declared.refusal.Refusal.{Refusal}
use Rattle.model.specs.declared.refusal.Refusal.TheVariants.{EntriesFull}
use Rattle.model.specs.declared.call.Call.{Call}
use Rattle.model.specs.declared.call.Call.TheVariants.{Read}
use Rattle.model.specs.declared.call.Answer.TheVariants.{Denied}
use Rattle.model.specs.Maps.{look_up, enter}
use Rattle.model.specs.Records.{record_at}
use Rattle.model.specs.Versions.{versions_down}
use Rattle.model.specs.State.{State, with_entries}
use Rattle.model.specs.Stamping.{stamp_record}
use Rattle.model.specs.Step.{step}

module _ {V : Type 0} where
  -- the work of a read of k at the version v, whose record has this number, by its entry: a pending record that is committed is stamped, which raises the class
  -- number; one that has no entry gets "aborted", unless its version is below the fence
  abbrev pub work_number : ℕ → ℕ → State V → Option ℕ → Option CommitEntry → State V
  work_number k v s (Some n) e = s
  work_number k v s None (Some (Committed n)) = stamp_record k v n s
  work_number k v s None (Some Aborted) = s
  work_number k v s None None = cond (nat_lt v s.fence) s (with_entries (enter v Aborted s.entries) s)

  abbrev pub work_at : ℕ → ℕ → State V → Option (Record V) → Option CommitEntry → State V
  work_at k v s None e = s
  work_at k v s (Some r) e = work_number k v s r.number e

  -- the work at some versions, the first of the list first
  unfoldable pub worked : ℕ → List ℕ → State V → State V
  worked k [] s = s
  worked k (v ∷ vs) s = worked k vs (work_at k v s (record_at s.records k v) (look_up s.entries v))

  -- c is a read of the key by id that went down the versions at or below id, the highest first, and was denied at one of them; t is s with the work at those above it
  pub record Stopped (s t : State V) (c : Call V) (w : Refusal) : Type 0 where
    pub id : ℕ
    pub key : ℕ
    pub version : ℕ
    pub above : List ℕ
    pub below : List ℕ
    pub is_read : c ≡ Read id key
    pub is_full : w ≡ EntriesFull version
    pub split : versions_down s.records key id [] ≡ above ++ (version ∷ below)
    pub left : t ≡ worked key above s

abbrev pub Denials : Type 0 → Type 0
Denials V = (s : State V) (c : Call V) (w : Refusal) → (step s c).1 ≡ Denied w → ((step s c).0 ≡ s) ⊎ Stopped s (step s c).0 c w
