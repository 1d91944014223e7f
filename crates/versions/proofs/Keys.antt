-- One turn of each loop over the keys of a transaction, and its end. Assumes nothing.
use Rattle.std.proofs.Common.{◌≡◌, ℕ, ◌+◌, ◌<◌, ◌≤◌, List, length, get_or, drop}
use Rattle.std.proofs.lemmas.List.{at_drop_more, at_drop_all}
use Rattle.model.specs.declared.words.Record.{Record}
use Rattle.model.specs.Records.{record_at}
use Rattle.model.specs.Versions.{is_pending_record, one_if, drop_pending, drop_pending_all, count_pending_all}
use Rattle.model.specs.State.{State}
use Rattle.model.specs.Stamping.{stamp_record, stamp_records}

module _ {V : Type 0} (v : ℕ) (ks : List ℕ) (i : ℕ) where
  pub stamp_more : (n : ℕ) (s : State V) → i < length ks → stamp_records v n (drop i ks) s ≡ stamp_records v n (drop (i + 1) ks) (stamp_record (get_or ks i 0) v n s)
  unfolding stamp_records
  stamp_more n s h = at_drop_more (λ t. stamp_records v n t s) ks i 0 h

  pub stamp_all : (n : ℕ) (s : State V) → length ks ≤ i → stamp_records v n (drop i ks) s ≡ s
  unfolding stamp_records
  stamp_all n s h = at_drop_all (λ t. stamp_records v n t s) ks i h

  pub drop_more : (l : List (Record V)) → i < length ks → drop_pending_all v (drop i ks) l ≡ drop_pending_all v (drop (i + 1) ks) (drop_pending v (get_or ks i 0) l)
  unfolding drop_pending_all
  drop_more l h = at_drop_more (λ t. drop_pending_all v t l) ks i 0 h

  pub drop_all : (l : List (Record V)) → length ks ≤ i → drop_pending_all v (drop i ks) l ≡ l
  unfolding drop_pending_all
  drop_all l h = at_drop_all (λ t. drop_pending_all v t l) ks i h

  pub count_more : (l : List (Record V)) → i < length ks
      → count_pending_all v (drop i ks) l ≡ one_if (is_pending_record (record_at l (get_or ks i 0) v)) + count_pending_all v (drop (i + 1) ks) (drop_pending v (get_or ks i 0) l)
  unfolding count_pending_all
  count_more l h = at_drop_more (λ t. count_pending_all v t l) ks i 0 h

  pub count_all : (l : List (Record V)) → length ks ≤ i → count_pending_all v (drop i ks) l ≡ 0
  unfolding count_pending_all
  count_all l h = at_drop_all (λ t. count_pending_all v t l) ks i h
