-- Tables: what each change leaves of the facts on rows, records and entries.
use Rattle.std.proofs.Common.{◌≡◌, ℕ, zero, suc, ◌<◌, ◌≤◌, max, true, ◌⊎◌, List, [], ◌∷◌, drop, Some, None, Option, sym, refl, ap, ◌∙◌, inl, inr, ⊎_elim, arith}
use Rattle.std.proofs.lemmas.Bool.Decides.{nat_tests}
use Rattle.model.specs.declared.words.Record.{Record}
use Rattle.model.specs.declared.words.CommitEntry.{CommitEntry}
use Rattle.model.specs.declared.words.CommitEntry.TheVariants.{Committed, Aborted}
use Rattle.model.specs.declared.words.Phase.{Phase}
use Rattle.model.specs.declared.words.Phase.TheVariants.{Settled}
use Rattle.model.specs.Maps.{is_there, look_up, enter, remove}
use Rattle.model.specs.Records.{record_at, mark, drop_record}
use Rattle.model.specs.Versions.{drop_pending_all}
use Rattle.model.specs.Classes.{class_number}
use Rattle.model.specs.Transactions.{member, Transaction, transaction}
use Rattle.model.specs.State.{State, with_rows, with_entries, with_records, with_floor, raise_class_of}
use Rattle.model.specs.Stamping.{row_gone, records_gone}
use Rattle.history.proofs.Summaries.{Commit, Summary}
use Rattle.model.proofs.Parts.{settled_in, settled_number, has_key, has_unstamped, committed_number, pending_value, record_number, record_value}
use Rattle.history.proofs.Facts.{Made, Done, Kept, by_stamp, by_entry, hidden, Time, Tables}
use Rattle.model.proofs.LookUps.{enter_says, remove_says, mem_drop, marked, mark_says, drop_says, kinds, marked_says, own_says}
use Rattle.model.proofs.VersionLists.{up_mark, up_drop, up_own, Holder, class_says}

pub left_row : (o : Option Transaction) (k : ℕ) → has_unstamped o k ≡ true → is_there o ≡ true
left_row None k e = e
left_row (Some r) k e = refl

pub key_row : (o : Option Transaction) (k : ℕ) → has_key o k ≡ true → is_there o ≡ true
key_row None k e = e
key_row (Some r) k e = refl

pub seal_row : (o : Option Transaction) (n : ℕ) → settled_number o ≡ Some n → is_there o ≡ true
seal_row None n e = grind arith
seal_row (Some r) n e = refl

drop_more : (n : ℕ) (ks : List ℕ) (k : ℕ) (ls : List ℕ) → drop n ks ≡ k ∷ ls → drop (suc n) ks ≡ ls
drop_more zero [] k ls e = grind arith
drop_more zero (x ∷ ks) k ls e = cc
drop_more (suc n) [] k ls e = grind arith
drop_more (suc n) (x ∷ ks) k ls e = drop_more n ks k ls e

module _ {V : Type 0} where
  pub made_more : (c : Commit V) (cs : List (Commit V)) (v n k : ℕ) (x : V) → Made cs v n k x → Made (c ∷ cs) v n k x
  made_more c cs v n k x M = record { commit = M.commit; among = inr M.among; version_is = M.version_is; number_is = M.number_is; wrote_it = M.wrote_it }

  pub done_more : (c : Commit V) (cs : List (Commit V)) (w : ℕ → ℕ → Option V) (i n : ℕ) → Done cs w i n → Done (c ∷ cs) w i n
  done_more c cs w i n D = record { commit = D.commit; among = inr D.among; version_is = D.version_is; number_is = D.number_is; wrote_all = D.wrote_all }

  pub there_value : (o : Option V) → is_there o ≡ true → (x : V) × (o ≡ Some x)
  there_value None e = grind arith
  there_value (Some x) e = (x, refl)

  pub rec_value : (o : Option (Record V)) (n : ℕ) → record_number o ≡ Some n → (x : V) × (record_value o ≡ Some x)
  rec_value None n e = grind arith
  rec_value (Some r) n e = (r.value, refl)

-- a class number rises
module _ {V : Type 0} (s : State V) (h : Summary V) (T : Time s h) (B : Tables s h) (k₀ n₀ : ℕ) where
  pub class_tables : Tables (raise_class_of k₀ n₀ s) (h)
  class_tables =
      record {
        pending = B.pending;
        stamp_class = λ k v n e. grind (arith, class_says k₀ n₀ s.classes k T.sixty_four, B.stamp_class k v n);
        stamp_commit = B.stamp_commit;
        sealing = B.sealing;
        aborted_row = B.aborted_row;
        settled = B.settled;
        keyed = B.keyed;
        unstamped = B.unstamped;
        held = B.held;
        uncommitted = B.uncommitted;
        one_number = B.one_number;
        kept = B.kept;
        sorted = B.sorted;
      }

module _ {V : Type 0} (s : State V) (h : Summary V) (B : Tables s h) (k₀ v₀ n₀ : ℕ) (en : look_up s.entries v₀ ≡ Some (Committed n₀)) where
  seal_here : settled_number (look_up s.rows v₀) ≡ Some n₀
  seal_here = B.sealing v₀ ∙ ap committed_number en

  mark_made : (x : V) → record_value (record_at s.records k₀ v₀) ≡ Some x → Made h.commits v₀ n₀ k₀ x
  mark_made x e = go (kinds (record_at s.records k₀ v₀))
    where
      D : Done h.commits h.writes v₀ n₀
      D = B.settled v₀ n₀ seal_here

      go : ((record_at s.records k₀ v₀ ≡ None) × (record_value (record_at s.records k₀ v₀) ≡ None) × (pending_value (record_at s.records k₀ v₀) ≡ None) × (record_number (record_at s.records k₀ v₀) ≡ None))
          ⊎ (((y : V) × (record_value (record_at s.records k₀ v₀) ≡ Some y) × (pending_value (record_at s.records k₀ v₀) ≡ Some y) × (record_number (record_at s.records k₀ v₀) ≡ None))
          ⊎ ((y : V) × (m : ℕ) × (record_value (record_at s.records k₀ v₀) ≡ Some y) × (pending_value (record_at s.records k₀ v₀) ≡ None) × (record_number (record_at s.records k₀ v₀) ≡ Some m)))
          → Made h.commits v₀ n₀ k₀ x
      go (inl p) = grind arith
      go (inr (inl p)) = record { commit = D.commit; among = D.among; version_is = D.version_is; number_is = D.number_is; wrote_it = D.wrote_all k₀ ∙ ((B.pending k₀ v₀ p.0 p.2).1 ∙ (sym p.1 ∙ e)) }
      go (inr (inr p)) = let q : p.1 ≡ n₀ = B.one_number k₀ v₀ p.1 n₀ (ap committed_number en) p.4 in rw (← q) (B.stamp_commit k₀ v₀ p.1 x p.4 e)

  kept_mark : (k v n : ℕ) (x : V) → Kept s.records s.entries s.floor k v n x → Kept (mark k₀ v₀ n₀ s.records) s.entries s.floor k v n x
  kept_mark k v n x (by_stamp e f) = by_stamp (grind (arith, mark_says k₀ v₀ n₀ s.records k v, marked_says n₀ (record_at s.records k v), B.one_number k v n n₀)) (grind (arith, mark_says k₀ v₀ n₀ s.records k v, marked_says n₀ (record_at s.records k v)))
  kept_mark k v n x (by_entry e f) = ⊎_elim
      (λ p. by_stamp (grind (arith, marked_says n₀ (record_at s.records k v))) (grind (arith, marked_says n₀ (record_at s.records k v), kinds (record_at s.records k v))))
      (λ p. by_entry (ap pending_value p.1 ∙ e) f) (mark_says k₀ v₀ n₀ s.records k v)
  kept_mark k v n x (hidden w m e a b) = hidden w m (grind (arith, mark_says k₀ v₀ n₀ s.records k w, marked_says n₀ (record_at s.records k w), B.one_number k w m n₀)) a b

-- the record of k₀ at v₀, whose entry is committed, is marked
module _ {V : Type 0} (s : State V) (h : Summary V) (T : Time s h) (B : Tables s h) (k₀ v₀ n₀ : ℕ) (en : look_up s.entries v₀ ≡ Some (Committed n₀)) (le : n₀ ≤ class_number s.classes k₀) where
  made : (k v n : ℕ) (x : V) → record_number (record_at (mark k₀ v₀ n₀ s.records) k v) ≡ Some n → record_value (record_at (mark k₀ v₀ n₀ s.records) k v) ≡ Some x
      → ((k ≡ k₀) × (v ≡ v₀) × (record_at (mark k₀ v₀ n₀ s.records) k v ≡ marked n₀ (record_at s.records k v))) ⊎ (((k ≡ k₀) → (v ≡ v₀) → ⊥) × (record_at (mark k₀ v₀ n₀ s.records) k v ≡ record_at s.records k v))
      → Made h.commits v n k x
  made k v n x e f (inl p) =
      let q : n ≡ n₀ = grind (arith, marked_says n₀ (record_at s.records k v)) in
      let y : record_value (record_at s.records k₀ v₀) ≡ Some x = grind (arith, marked_says n₀ (record_at s.records k v)) in
      rw (p.0, p.1, q) (mark_made s h B k₀ v₀ n₀ en x y)
  made k v n x e f (inr p) = B.stamp_commit k v n x (ap record_number (sym p.1) ∙ e) (ap record_value (sym p.1) ∙ f)

  pub mark_tables : Tables (with_records (mark k₀ v₀ n₀ s.records) s) (h)
  mark_tables =
      record {
        pending = λ k v x e. B.pending k v x (grind (arith, mark_says k₀ v₀ n₀ s.records k v, marked_says n₀ (record_at s.records k v)));
        stamp_class = λ k v n e. grind (arith, mark_says k₀ v₀ n₀ s.records k v, marked_says n₀ (record_at s.records k v), B.stamp_class k v n);
        stamp_commit = λ k v n x e f. made k v n x e f (mark_says k₀ v₀ n₀ s.records k v);
        sealing = B.sealing;
        aborted_row = B.aborted_row;
        settled = B.settled;
        keyed = B.keyed;
        unstamped = B.unstamped;
        held = λ i k e f m. grind (arith, mark_says k₀ v₀ n₀ s.records k i, B.held i k, seal_here s h B k₀ v₀ n₀ en);
        uncommitted = B.uncommitted;
        one_number = λ k v m n e f. grind (arith, mark_says k₀ v₀ n₀ s.records k v, marked_says n₀ (record_at s.records k v), B.one_number k v m n);
        kept = λ d k x m e. kept_mark s h B k₀ v₀ n₀ en k d.version d.number x (B.kept d k x m e);
        sorted = up_mark k₀ v₀ n₀ s.records B.sorted;
      }

module _ {V : Type 0} where
  kept_abort : (l : List (Record V)) (es : List (ℕ × CommitEntry)) (fl v₀ k v n : ℕ) (x : V) → look_up es v₀ ≡ None → Kept l es fl k v n x → Kept l (enter v₀ Aborted es) fl k v n x
  kept_abort l es fl v₀ k v n x a (by_stamp e f) = by_stamp e f
  kept_abort l es fl v₀ k v n x a (by_entry e f) = by_entry e (grind (arith, enter_says v₀ Aborted es v))
  kept_abort l es fl v₀ k v n x a (hidden w m e b c) = hidden w m e b c

  kept_drop : (l : List (Record V)) (es : List (ℕ × CommitEntry)) (fl k₀ v₀ : ℕ) (x₀ : V) (k v n : ℕ) (x : V) → pending_value (record_at l k₀ v₀) ≡ Some x₀ → committed_number (look_up es v₀) ≡ None → Kept l es fl k v n x → Kept (drop_record k₀ v₀ l) es fl k v n x
  kept_drop l es fl k₀ v₀ x₀ k v n x p c (by_stamp e f) = by_stamp (grind (arith, drop_says k₀ v₀ l k v, kinds (record_at l k v))) (grind (arith, drop_says k₀ v₀ l k v, kinds (record_at l k v)))
  kept_drop l es fl k₀ v₀ x₀ k v n x p c (by_entry e f) = by_entry (grind (arith, drop_says k₀ v₀ l k v)) f
  kept_drop l es fl k₀ v₀ x₀ k v n x p c (hidden w m e a b) = hidden w m (grind (arith, drop_says k₀ v₀ l k w, kinds (record_at l k w))) a b

  low_still : (l : List (Record V)) (fl k₀ v₀ n₀ m₀ : ℕ) → record_number (record_at l k₀ v₀) ≡ Some n₀ → n₀ < m₀ → Holder l fl k₀ m₀ → Holder (drop_record k₀ v₀ l) fl k₀ m₀
  low_still l fl k₀ v₀ n₀ m₀ e lt H = record { at = H.at; is = grind (arith, drop_says k₀ v₀ l k₀ H.at, H.is); low = H.low }

  kept_low : (l : List (Record V)) (es : List (ℕ × CommitEntry)) (fl k₀ v₀ n₀ m₀ : ℕ) → record_number (record_at l k₀ v₀) ≡ Some n₀ → n₀ < m₀ → Holder l fl k₀ m₀ → (k v n : ℕ) (x : V) → Kept l es fl k v n x → Kept (drop_record k₀ v₀ l) es fl k v n x
  kept_low l es fl k₀ v₀ n₀ m₀ st lt H k v n x (by_stamp e f) = ⊎_elim
      (λ p. let a : n < m₀ = grind arith in let J = low_still l fl k₀ v₀ n₀ m₀ st lt H in hidden J.at m₀ (rw p.0 J.is) a J.low)
      (λ p. by_stamp (ap record_number p.1 ∙ e) (ap record_value p.1 ∙ f))
      (drop_says k₀ v₀ l k v)
  kept_low l es fl k₀ v₀ n₀ m₀ st lt H k v n x (by_entry e f) = by_entry (grind (arith, drop_says k₀ v₀ l k v, kinds (record_at l k v))) f
  kept_low l es fl k₀ v₀ n₀ m₀ st lt H k v n x (hidden w m e a b) = ⊎_elim
      (λ p. let c : m < m₀ = grind arith in let J = low_still l fl k₀ v₀ n₀ m₀ st lt H in hidden J.at m₀ (rw p.0 J.is) (omega arith) J.low)
      (λ p. hidden w m (ap record_number p.1 ∙ e) a b)
      (drop_says k₀ v₀ l k w)

-- a pending record with no entry is aborted
module _ {V : Type 0} (s : State V) (h : Summary V) (T : Time s h) (B : Tables s h) (k₀ v₀ : ℕ) (x₀ : V) (pe : pending_value (record_at s.records k₀ v₀) ≡ Some x₀) (bare : look_up s.entries v₀ ≡ None) where
  pub abort_tables : Tables (with_entries (enter v₀ Aborted s.entries) s) (h)
  abort_tables =
      record {
        pending = B.pending;
        stamp_class = B.stamp_class;
        stamp_commit = B.stamp_commit;
        sealing = λ i. grind (arith, enter_says, B.sealing i);
        aborted_row = λ i e. grind (arith, enter_says, B.aborted_row i, left_row (look_up s.rows v₀) k₀ (B.pending k₀ v₀ x₀ pe).0);
        settled = B.settled;
        keyed = B.keyed;
        unstamped = B.unstamped;
        held = B.held;
        uncommitted = B.uncommitted;
        one_number = λ k v m n e f. grind (arith, enter_says, B.one_number k v m n);
        kept = λ d k x m e. kept_abort s.records s.entries s.floor v₀ k d.version d.number x bare (B.kept d k x m e);
        sorted = B.sorted;
      }

-- a pending record below the floor goes
module _ {V : Type 0} (s : State V) (h : Summary V) (T : Time s h) (B : Tables s h) (k₀ v₀ : ℕ) (x₀ : V) (pe : pending_value (record_at s.records k₀ v₀) ≡ Some x₀) (un : committed_number (look_up s.entries v₀) ≡ None) (lt : v₀ < s.floor) where
  pub drop_tables : Tables (with_records (drop_record k₀ v₀ s.records) s) (h)
  drop_tables =
      record {
        pending = λ k v x e. B.pending k v x (grind (arith, drop_says k₀ v₀ s.records k v));
        stamp_class = λ k v n e. B.stamp_class k v n (grind (arith, drop_says k₀ v₀ s.records k v));
        stamp_commit = λ k v n x e f. B.stamp_commit k v n x (grind (arith, drop_says k₀ v₀ s.records k v)) (grind (arith, drop_says k₀ v₀ s.records k v));
        sealing = B.sealing;
        aborted_row = B.aborted_row;
        settled = B.settled;
        keyed = B.keyed;
        unstamped = B.unstamped;
        held = λ i k e f m. grind (arith, drop_says k₀ v₀ s.records k i, B.held i k);
        uncommitted = B.uncommitted;
        one_number = λ k v m n e f. B.one_number k v m n e (grind (arith, drop_says k₀ v₀ s.records k v));
        kept = λ d k x m e. kept_drop s.records s.entries s.floor k₀ v₀ x₀ k d.version d.number x pe un (B.kept d k x m e);
        sorted = up_drop k₀ v₀ s.records B.sorted;
      }

-- a stamped record under a greater number below the floor goes
module _ {V : Type 0} (s : State V) (h : Summary V) (T : Time s h) (B : Tables s h) (k₀ v₀ n₀ m₀ : ℕ) (st : record_number (record_at s.records k₀ v₀) ≡ Some n₀) (lt : n₀ < m₀) (H : Holder s.records s.floor k₀ m₀) where
  pub low_tables : Tables (with_records (drop_record k₀ v₀ s.records) s) (h)
  low_tables =
      record {
        pending = λ k v x e. B.pending k v x (grind (arith, drop_says k₀ v₀ s.records k v));
        stamp_class = λ k v n e. B.stamp_class k v n (grind (arith, drop_says k₀ v₀ s.records k v));
        stamp_commit = λ k v n x e f. B.stamp_commit k v n x (grind (arith, drop_says k₀ v₀ s.records k v)) (grind (arith, drop_says k₀ v₀ s.records k v));
        sealing = B.sealing;
        aborted_row = B.aborted_row;
        settled = B.settled;
        keyed = B.keyed;
        unstamped = B.unstamped;
        held = λ i k e f m. grind (arith, drop_says k₀ v₀ s.records k i, B.held i k, kinds (record_at s.records k i));
        uncommitted = B.uncommitted;
        one_number = λ k v m n e f. B.one_number k v m n e (grind (arith, drop_says k₀ v₀ s.records k v));
        kept = λ d k x m e. kept_low s.records s.entries s.floor k₀ v₀ n₀ m₀ st lt H k d.version d.number x (B.kept d k x m e);
        sorted = up_drop k₀ v₀ s.records B.sorted;
      }

-- one more key of a settled row is stamped
module _ {V : Type 0} (s : State V) (h : Summary V) (T : Time s h) (B : Tables s h) (id c₀ : ℕ) (ks : List ℕ) (n₀ k₀ : ℕ) (ls : List ℕ) (at : look_up s.rows id ≡ Some (transaction (Settled c₀) ks n₀)) (dr : drop n₀ ks ≡ k₀ ∷ ls) (gone : pending_value (record_at s.records k₀ id) ≡ None) where
  left : (k v : ℕ) (x : V) → pending_value (record_at s.records k v) ≡ Some x
      → ((v ≡ id) × (look_up (enter id (transaction (Settled c₀) ks (suc n₀)) s.rows) v ≡ Some (transaction (Settled c₀) ks (suc n₀)))) ⊎ ((v ≡ id → ⊥) × (look_up (enter id (transaction (Settled c₀) ks (suc n₀)) s.rows) v ≡ look_up s.rows v))
      → (has_unstamped (look_up (enter id (transaction (Settled c₀) ks (suc n₀)) s.rows) v) k ≡ true) × (h.writes v k ≡ Some x)
  left k v x e (inl p) =
      let q = B.pending k v x e in
      let a : member k (drop n₀ ks) ≡ true = ap (λ o. has_unstamped o k) (sym (ap (look_up s.rows) p.0 ∙ at)) ∙ q.0 in
      let b : member k (k₀ ∷ ls) ≡ true = ap (member k) (sym dr) ∙ a in
      let c : member k ls ≡ true = grind (arith, nat_tests, p.0) in
      (ap (λ o. has_unstamped o k) p.1 ∙ (ap (member k) (drop_more n₀ ks k₀ ls dr) ∙ c), q.1)
  left k v x e (inr p) = let q = B.pending k v x e in (ap (λ o. has_unstamped o k) p.1 ∙ q.0, q.1)

  pub advance_tables : Tables (with_rows (enter id (transaction (Settled c₀) ks (suc n₀)) s.rows) s) (h)
  advance_tables =
      record {
        pending = λ k v x e. left k v x e (enter_says id (transaction (Settled c₀) ks (suc n₀)) s.rows v);
        stamp_class = B.stamp_class;
        stamp_commit = B.stamp_commit;
        sealing = λ i. grind (arith, enter_says, B.sealing i);
        aborted_row = λ i e. grind (arith, enter_says, B.aborted_row i);
        settled = λ i n e. B.settled i n (grind (arith, enter_says));
        keyed = λ i k e. grind (arith, enter_says, B.keyed i k);
        unstamped = λ i e. grind (arith, enter_says, B.unstamped i);
        held = λ i k e f m. grind (arith, enter_says, B.held i k);
        uncommitted = λ i d e f m v. grind (arith, enter_says, B.uncommitted i d);
        one_number = B.one_number;
        kept = B.kept;
        sorted = B.sorted;
      }

-- a settled row with no pending record goes, and its entry
module _ {V : Type 0} (s : State V) (h : Summary V) (T : Time s h) (B : Tables s h) (id c₀ : ℕ) (ks : List ℕ) (n₀ : ℕ) (at : look_up s.rows id ≡ Some (transaction (Settled c₀) ks n₀)) (gone : (k : ℕ) → member k (drop n₀ ks) ≡ true → pending_value (record_at s.records k id) ≡ None) where
  kept_close : (k v n : ℕ) (x : V) → Kept s.records s.entries s.floor k v n x → Kept s.records (remove id s.entries) s.floor k v n x
  kept_close k v n x (by_stamp e f) = by_stamp e f
  kept_close k v n x (by_entry e f) = by_entry e (grind (arith, remove_says id s.entries v, B.pending k v x e, gone k))
  kept_close k v n x (hidden w m e a b) = hidden w m e a b

  pub close_tables : Tables (row_gone id s) (h)
  close_tables =
      record {
        pending = λ k v x e. grind (arith, remove_says, B.pending k v x e, gone k);
        stamp_class = B.stamp_class;
        stamp_commit = B.stamp_commit;
        sealing = λ i. grind (arith, remove_says id s.rows i, remove_says id s.entries i, B.sealing i);
        aborted_row = λ i e. grind (arith, remove_says id s.rows i, remove_says id s.entries i, B.aborted_row i);
        settled = λ i n e. B.settled i n (grind (arith, remove_says id s.rows i));
        keyed = λ i k e. grind (arith, remove_says id s.rows i, B.keyed i k);
        unstamped = λ i e. grind (arith, remove_says id s.rows i, B.unstamped i);
        held = λ i k e f m. grind (arith, remove_says id s.rows i, B.held i k);
        uncommitted = λ i d e f m v. grind (arith, remove_says id s.rows i, B.uncommitted i d);
        one_number = λ k v m n e f. grind (arith, remove_says id s.entries v, B.one_number k v m n);
        kept = λ d k x m e. kept_close k d.version d.number x (B.kept d k x m e);
        sorted = B.sorted;
      }

-- an unsettled row goes, with its entry and its pending records
module _ {V : Type 0} (s : State V) (h : Summary V) (T : Time s h) (B : Tables s h) (id : ℕ) (p₀ : Phase) (ks : List ℕ) (n₀ : ℕ) (at : look_up s.rows id ≡ Some (transaction p₀ ks n₀)) (un : settled_in p₀ ≡ None) where
  kept_own : (k v n : ℕ) (x : V) → Kept s.records s.entries s.floor k v n x → Kept (drop_pending_all id ks s.records) (remove id s.entries) s.floor k v n x
  kept_own k v n x (by_stamp e f) = by_stamp (grind (arith, own_says id ks s.records k v)) (grind (arith, own_says id ks s.records k v))
  kept_own k v n x (by_entry e f) = by_entry (grind (arith, own_says id ks s.records k v, B.sealing v)) (grind (arith, remove_says id s.entries v, B.sealing v))
  kept_own k v n x (hidden w m e a b) = hidden w m (grind (arith, own_says id ks s.records k w)) a b

  pub abandon_tables : Tables (records_gone id ks s) (h)
  abandon_tables =
      record {
        pending = λ k v x e. let q = B.pending k v x (grind (arith, own_says id ks s.records k v)) in (grind (arith, remove_says id s.rows v, own_says id ks s.records k v, mem_drop n₀ ks k, q.0), q.1);
        stamp_class = λ k v n e. B.stamp_class k v n (grind (arith, own_says id ks s.records k v));
        stamp_commit = λ k v n x e f. B.stamp_commit k v n x (grind (arith, own_says id ks s.records k v)) (grind (arith, own_says id ks s.records k v));
        sealing = λ i. grind (arith, remove_says id s.rows i, remove_says id s.entries i, B.sealing i);
        aborted_row = λ i e. grind (arith, remove_says id s.rows i, remove_says id s.entries i, B.aborted_row i);
        settled = λ i n e. B.settled i n (grind (arith, remove_says id s.rows i));
        keyed = λ i k e. grind (arith, remove_says id s.rows i, B.keyed i k);
        unstamped = λ i e. grind (arith, remove_says id s.rows i, B.unstamped i);
        held = λ i k e f m. grind (arith, remove_says id s.rows i, own_says id ks s.records k i, B.held i k);
        uncommitted = λ i d e f m v. grind (arith, remove_says id s.rows i, B.uncommitted i d);
        one_number = λ k v m n e f. B.one_number k v m n (grind (arith, remove_says id s.entries v)) (grind (arith, own_says id ks s.records k v));
        kept = λ d k x m e. kept_own k d.version d.number x (B.kept d k x m e);
        sorted = up_own id ks s.records B.sorted;
      }

module _ {V : Type 0} where
  kept_raise : (l : List (Record V)) (es : List (ℕ × CommitEntry)) (fl g k v n : ℕ) (x : V) → fl ≤ g → Kept l es fl k v n x → Kept l es g k v n x
  kept_raise l es fl g k v n x a (by_stamp e f) = by_stamp e f
  kept_raise l es fl g k v n x a (by_entry e f) = by_entry e f
  kept_raise l es fl g k v n x a (hidden w m e b c) = hidden w m e b (omega arith)

-- the floor rises
module _ {V : Type 0} (s : State V) (h : Summary V) (T : Time s h) (B : Tables s h) (h₀ : ℕ) where
  pub raise_tables : Tables (with_floor h₀ s) (h)
  raise_tables =
      record {
        pending = B.pending;
        stamp_class = B.stamp_class;
        stamp_commit = B.stamp_commit;
        sealing = B.sealing;
        aborted_row = B.aborted_row;
        settled = B.settled;
        keyed = B.keyed;
        unstamped = B.unstamped;
        held = λ i k e f m. B.held i k e (omega arith) m;
        uncommitted = B.uncommitted;
        one_number = B.one_number;
        kept = λ d k x m e. kept_raise s.records s.entries s.floor (max s.floor h₀) k d.version d.number x (omega arith) (B.kept d k x m e);
        sorted = B.sorted;
      }
