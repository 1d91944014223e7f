-- Tables: the facts on rows, records and entries where the summary grows: a read, a validation, a begin, a write, a settle and a fast commit.
use Rattle.std.proofs.Common.{◌≡◌, ℕ, ◌%◌, ◌≤◌, true, false, ◌⊎◌, List, [], ◌∷◌, drop, Some, None, Option, sym, refl, ap, ◌∙◌, inl, inr, ⊎_elim, arith}
use Rattle.std.proofs.lemmas.Bool.Decides.{nat_tests}
use Rattle.model.specs.declared.words.CommitEntry.TheVariants.{Committed}
use Rattle.model.specs.declared.words.Phase.TheVariants.{Open, Validated, Settled}
use Rattle.model.specs.Numbers.{U}
use Rattle.model.specs.Maps.{is_there, look_up, enter}
use Rattle.model.specs.Records.{record_of, record_at, put}
use Rattle.model.specs.Classes.{class_number}
use Rattle.model.specs.Transactions.{member, with_key, Transaction, transaction}
use Rattle.model.specs.State.{State, with_rows, with_records}
use Rattle.model.specs.Settling.{settled}
use Rattle.history.specs.Past.{In, only, with_write, began, wrote}
use Rattle.history.proofs.Summaries.{Commit, Summary, with_effect, settled_commit, fast_commit}
use Rattle.model.proofs.Parts.{settled_number, has_key, has_unstamped, pending_value, record_number, record_value}
use Rattle.history.proofs.Facts.{Made, Done, Kept, by_stamp, by_entry, hidden, Time, Tables}
use Rattle.model.proofs.LookUps.{enter_says, with_key_says, mem_drop, put_says}
use Rattle.model.proofs.VersionLists.{up_put}
use Rattle.history.proofs.TimeKept.{add_commit, in_cons}
use Rattle.history.proofs.TablesKept.{done_more, key_row, made_more, rec_value, seal_row, there_value}

-- an open row is validated
module _ {V : Type 0} (s : State V) (h : Summary V) (T : Time s h) (B : Tables s h) (id c₀ : ℕ) (ks : List ℕ) (n₀ : ℕ) (at : look_up s.rows id ≡ Some (transaction Open ks n₀)) where
  pub validate_tables : Tables (with_rows (enter id (transaction (Validated c₀) ks n₀) s.rows) s) (h)
  validate_tables =
      record {
        pending = λ k v x e. grind (arith, enter_says, B.pending k v x e);
        stamp_class = B.stamp_class;
        stamp_commit = B.stamp_commit;
        sealing = λ i. grind (arith, enter_says, B.sealing i);
        aborted_row = λ i e. grind (arith, enter_says, B.aborted_row i);
        settled = λ i n e. B.settled i n (grind (arith, enter_says));
        keyed = λ i k e. grind (arith, enter_says, B.keyed i k);
        unstamped = λ i e. grind (arith, enter_says, B.unstamped i);
        held = λ i k e f m. grind (arith, enter_says, B.held i k);
        uncommitted = λ i d e f m v. grind (arith, enter_says, B.uncommitted i d);
        one_number = B.one_number;
        kept = B.kept;
        sorted = B.sorted;
      }

-- the id i₀ was never begun
pub record Unused {V : Type 0} (s : State V) (h : Summary V) (i₀ : ℕ) : Type 0 where
  pub no_row : is_there (look_up s.rows i₀) ≡ false
  pub no_write : (k : ℕ) → h.writes i₀ k ≡ None
  pub no_commit : (d : Commit V) → In d h.commits → d.version ≡ i₀ → ⊥

pub no_line : (o : Option Transaction) → is_there o ≡ false → o ≡ None
no_line None e = refl
no_line (Some r) e = grind arith

-- an open row begins
module _ {V : Type 0} (s : State V) (h : Summary V) (T : Time s h) (B : Tables s h) (i₀ : ℕ) (N : Unused s h i₀) where
  pub begin_tables : Tables (with_rows (enter i₀ (transaction Open [] 0) s.rows) s) (with_effect (began i₀) h)
  begin_tables =
      let nl : look_up s.rows i₀ ≡ None = no_line (look_up s.rows i₀) N.no_row in
      record {
        pending = λ k v x e. grind (arith, enter_says, B.pending k v x e, nl);
        stamp_class = B.stamp_class;
        stamp_commit = B.stamp_commit;
        sealing = λ i. grind (arith, enter_says, B.sealing i, nl);
        aborted_row = λ i e. grind (arith, enter_says, B.aborted_row i);
        settled = λ i n e. B.settled i n (grind (arith, enter_says));
        keyed = λ i k e. grind (arith, enter_says, B.keyed i k, N.no_write k);
        unstamped = λ i e. grind (arith, enter_says, B.unstamped i);
        held = λ i k e f m. grind (arith, enter_says, B.held i k);
        uncommitted = λ i d e f m v. grind (arith, enter_says, B.uncommitted i d, N.no_commit d m);
        one_number = B.one_number;
        kept = B.kept;
        sorted = B.sorted;
      }

-- an open row writes
module _ {V : Type 0} (s : State V) (h : Summary V) (T : Time s h) (B : Tables s h) (id k₀ : ℕ) (x₀ : V) (ks : List ℕ) (n₀ : ℕ) (at : look_up s.rows id ≡ Some (transaction Open ks n₀)) where
  zero_done : n₀ ≡ 0
  zero_done = grind (arith, B.unstamped id)

  pend : (k v : ℕ) (x : V) → pending_value (record_at (put (record_of k₀ id None x₀) s.records) k v) ≡ Some x
      → ((k ≡ k₀) × (v ≡ id) × (record_at (put (record_of k₀ id None x₀) s.records) k v ≡ Some (record_of k₀ id None x₀))) ⊎ (((k ≡ k₀) → (v ≡ id) → ⊥) × (record_at (put (record_of k₀ id None x₀) s.records) k v ≡ record_at s.records k v))
      → ((v ≡ id) × (look_up (enter id (transaction Open (with_key k₀ ks) n₀) s.rows) v ≡ Some (transaction Open (with_key k₀ ks) n₀))) ⊎ ((v ≡ id → ⊥) × (look_up (enter id (transaction Open (with_key k₀ ks) n₀) s.rows) v ≡ look_up s.rows v))
      → (has_unstamped (look_up (enter id (transaction Open (with_key k₀ ks) n₀) s.rows) v) k ≡ true) × (with_write id k₀ x₀ h.writes v k ≡ Some x)
  pend k v x e (inl p) (inl q) = (ap (λ o. has_unstamped o k) q.1 ∙ (rw zero_done (grind (arith, nat_tests, with_key_says k₀ ks k, p.0))), grind (arith, nat_tests))
  pend k v x e (inl p) (inr q) = absurd (q.0 p.1)
  pend k v x e (inr p) (inl q) =
      let b = B.pending k v x (ap pending_value (sym p.1) ∙ e) in
      let a : member k (drop n₀ ks) ≡ true = ap (λ o. has_unstamped o k) (sym (ap (look_up s.rows) q.0 ∙ at)) ∙ b.0 in
      let a' : member k ks ≡ true = mem_drop n₀ ks k a in
      (ap (λ o. has_unstamped o k) q.1 ∙ (rw zero_done (grind (arith, nat_tests, with_key_says k₀ ks k))), grind (arith, nat_tests, b.1, p.0))
  pend k v x e (inr p) (inr q) =
      let b = B.pending k v x (ap pending_value (sym p.1) ∙ e) in
      (ap (λ o. has_unstamped o k) q.1 ∙ b.0, grind (arith, nat_tests, b.1))

  done : (i n : ℕ)
      → ((i ≡ id) × (look_up (enter id (transaction Open (with_key k₀ ks) n₀) s.rows) i ≡ Some (transaction Open (with_key k₀ ks) n₀))) ⊎ ((i ≡ id → ⊥) × (look_up (enter id (transaction Open (with_key k₀ ks) n₀) s.rows) i ≡ look_up s.rows i))
      → settled_number (look_up (enter id (transaction Open (with_key k₀ ks) n₀) s.rows) i) ≡ Some n → Done h.commits (with_write id k₀ x₀ h.writes) i n
  done i n (inl p) e = absurd (grind arith)
  done i n (inr p) e =
      let D = B.settled i n (ap settled_number (sym p.1) ∙ e) in
      record { commit = D.commit; among = D.among; version_is = D.version_is; number_is = D.number_is; wrote_all = λ k. grind (arith, nat_tests, D.wrote_all k, p.0) }

  -- no stamped record stands where an unsettled row writes
  unstamped_here : (k m : ℕ) → record_number (record_at s.records k id) ≡ Some m → ⊥
  unstamped_here k m e =
      let x = rec_value (record_at s.records k id) m e in
      let M = B.stamp_commit k id m x.0 e x.1 in
      B.uncommitted id M.commit (ap is_there at) (ap settled_number at) M.among M.version_is

  kept_put : (d : Commit V) (k : ℕ) (x : V) → In d h.commits → Kept s.records s.entries s.floor k d.version d.number x → Kept (put (record_of k₀ id None x₀) s.records) s.entries s.floor k d.version d.number x
  kept_put d k x m (by_stamp e f) =
      let w = B.uncommitted id d (ap is_there at) (ap settled_number at) m in
      by_stamp (grind (arith, put_says (record_of k₀ id None x₀) s.records k d.version, w)) (grind (arith, put_says (record_of k₀ id None x₀) s.records k d.version, w))
  kept_put d k x m (by_entry e f) =
      let w = B.uncommitted id d (ap is_there at) (ap settled_number at) m in
      by_entry (grind (arith, put_says (record_of k₀ id None x₀) s.records k d.version, w)) f
  kept_put d k x m (hidden w n e a b) = hidden w n (grind (arith, put_says (record_of k₀ id None x₀) s.records k w, unstamped_here k n)) a b

  pub write_tables : Tables (with_rows (enter id (transaction Open (with_key k₀ ks) n₀) s.rows) (with_records (put (record_of k₀ id None x₀) s.records) s)) (with_effect (wrote id k₀ x₀) h)
  write_tables =
      record {
        pending = λ k v x e. pend k v x e (put_says (record_of k₀ id None x₀) s.records k v) (enter_says id (transaction Open (with_key k₀ ks) n₀) s.rows v);
        stamp_class = λ k v n e. B.stamp_class k v n (grind (arith, put_says (record_of k₀ id None x₀) s.records k v));
        stamp_commit = λ k v n x e f. B.stamp_commit k v n x (grind (arith, put_says (record_of k₀ id None x₀) s.records k v)) (grind (arith, put_says (record_of k₀ id None x₀) s.records k v));
        sealing = λ i. grind (arith, enter_says, B.sealing i);
        aborted_row = λ i e. grind (arith, enter_says, B.aborted_row i);
        settled = λ i n e. done i n (enter_says id (transaction Open (with_key k₀ ks) n₀) s.rows i) e;
        keyed = λ i k e. grind (arith, nat_tests, enter_says, B.keyed i k, with_key_says k₀ ks k);
        unstamped = λ i e. grind (arith, enter_says, B.unstamped i);
        held = λ i k e f m. grind (arith, nat_tests, enter_says, put_says (record_of k₀ id None x₀) s.records k i, with_key_says k₀ ks k, B.held i k);
        uncommitted = λ i d e f m v. grind (arith, enter_says, B.uncommitted i d);
        one_number = λ k v m n e f. B.one_number k v m n e (grind (arith, put_says (record_of k₀ id None x₀) s.records k v));
        kept = λ d k x m e. kept_put d k x m (B.kept d k x m e);
        sorted = up_put (record_of k₀ id None x₀) s.records B.sorted;
      }

-- a validated row settles
module _ {V : Type 0} (s : State V) (h : Summary V) (T : Time s h) (B : Tables s h) (id c₀ : ℕ) (ks : List ℕ) (n₀ : ℕ) (at : look_up s.rows id ≡ Some (transaction (Validated c₀) ks n₀)) (fe : s.fence ≤ id) where
  unstamped_there : (k m : ℕ) → record_number (record_at s.records k id) ≡ Some m → ⊥
  unstamped_there k m e =
      let x = rec_value (record_at s.records k id) m e in
      let M = B.stamp_commit k id m x.0 e x.1 in
      B.uncommitted id M.commit (ap is_there at) (ap settled_number at) M.among M.version_is

  settle_done : (i n : ℕ)
      → ((i ≡ id) × (look_up (enter id (transaction (Settled c₀) ks n₀) s.rows) i ≡ Some (transaction (Settled c₀) ks n₀))) ⊎ ((i ≡ id → ⊥) × (look_up (enter id (transaction (Settled c₀) ks n₀) s.rows) i ≡ look_up s.rows i))
      → settled_number (look_up (enter id (transaction (Settled c₀) ks n₀) s.rows) i) ≡ Some n → Done (settled_commit id c₀ (h.writes id) ∷ h.commits) h.writes i n
  settle_done i n (inl p) e = record { commit = settled_commit id c₀ (h.writes id); among = inl refl; version_is = sym p.0; number_is = grind arith; wrote_all = λ k. ap (λ j. h.writes j k) (sym p.0) }
  settle_done i n (inr p) e = done_more (settled_commit id c₀ (h.writes id)) h.commits h.writes i n (B.settled i n (ap settled_number (sym p.1) ∙ e))

  settle_new : (k : ℕ) (x : V) → h.writes id k ≡ Some x → Kept s.records (enter id (Committed c₀) s.entries) s.floor k id c₀ x
  settle_new k x e =
      let y : has_key (look_up s.rows id) k ≡ true = B.keyed id k (ap is_there at) ∙ ap is_there e in
      let p = there_value (pending_value (record_at s.records k id)) (B.held id k (ap settled_number at) (omega (arith, T.floor_fence)) y) in
      let q = B.pending k id p.0 p.1 in
      by_entry (p.1 ∙ (sym q.1 ∙ e)) (grind (arith, enter_says id (Committed c₀) s.entries id))

  kept_entry : (d : Commit V) (k : ℕ) (x : V) → In d h.commits → Kept s.records s.entries s.floor k d.version d.number x → Kept s.records (enter id (Committed c₀) s.entries) s.floor k d.version d.number x
  kept_entry d k x m (by_stamp e f) = by_stamp e f
  kept_entry d k x m (by_entry e f) = let w = B.uncommitted id d (ap is_there at) (ap settled_number at) m in by_entry e (grind (arith, enter_says id (Committed c₀) s.entries d.version, w))
  kept_entry d k x m (hidden w n e a b) = hidden w n e a b

  pub settle_tables : Tables (settled id c₀ ks n₀ (enter id (Committed c₀) s.entries) s).0 (add_commit (settled_commit id c₀ (h.writes id)) h)
  settle_tables =
      record {
        pending = λ k v x e. grind (arith, enter_says id (transaction (Settled c₀) ks n₀) s.rows v, B.pending k v x e);
        stamp_class = B.stamp_class;
        stamp_commit = λ k v n x e f. made_more (settled_commit id c₀ (h.writes id)) h.commits v n k x (B.stamp_commit k v n x e f);
        sealing = λ i. grind (arith, enter_says id (transaction (Settled c₀) ks n₀) s.rows i, enter_says id (Committed c₀) s.entries i, B.sealing i);
        aborted_row = λ i e. grind (arith, enter_says id (transaction (Settled c₀) ks n₀) s.rows i, enter_says id (Committed c₀) s.entries i, B.aborted_row i);
        settled = λ i n e. settle_done i n (enter_says id (transaction (Settled c₀) ks n₀) s.rows i) e;
        keyed = λ i k e. grind (arith, enter_says id (transaction (Settled c₀) ks n₀) s.rows i, B.keyed i k);
        unstamped = λ i e. grind (arith, enter_says id (transaction (Settled c₀) ks n₀) s.rows i, B.unstamped i);
        held = λ i k e f m. grind (arith, enter_says id (transaction (Settled c₀) ks n₀) s.rows i, B.held i k);
        uncommitted = λ i d e f m v. ⊎_elim (λ q. grind (arith, enter_says id (transaction (Settled c₀) ks n₀) s.rows i, ap (λ (c : Commit V). c.version) q)) (λ m. grind (arith, enter_says id (transaction (Settled c₀) ks n₀) s.rows i, B.uncommitted i d)) m;
        one_number = λ k v m n e f. grind (arith, enter_says id (Committed c₀) s.entries v, B.one_number k v m n, unstamped_there k m);
        kept = λ d k x m e. in_cons (λ d. (k : ℕ) (x : V) → d.values k ≡ Some x → Kept s.records (enter id (Committed c₀) s.entries) s.floor k d.version d.number x) (settled_commit id c₀ (h.writes id)) h.commits settle_new (λ d m k x e. kept_entry d k x m (B.kept d k x m e)) d m k x e;
        sorted = B.sorted;
      }

-- a fast commit
module _ {V : Type 0} (s : State V) (h : Summary V) (T : Time s h) (B : Tables s h) (m₀ k₀ f₀ : ℕ) (x₀ : V) (odd : f₀ % U ≡ 0 → ⊥) (le : f₀ ≤ class_number s.classes k₀) (free : record_at s.records k₀ f₀ ≡ None) where
  no_row : (i : ℕ) → is_there (look_up s.rows i) ≡ true → i ≡ f₀ → ⊥
  no_row i e q = odd (ap (λ n. n % U) (sym q) ∙ (T.begun i (T.rows_begun i e)).0)

  fast_made : (k v n : ℕ) (x : V) → record_number (record_at (put (record_of k₀ f₀ (Some f₀) x₀) s.records) k v) ≡ Some n → record_value (record_at (put (record_of k₀ f₀ (Some f₀) x₀) s.records) k v) ≡ Some x
      → ((k ≡ k₀) × (v ≡ f₀) × (record_at (put (record_of k₀ f₀ (Some f₀) x₀) s.records) k v ≡ Some (record_of k₀ f₀ (Some f₀) x₀))) ⊎ (((k ≡ k₀) → (v ≡ f₀) → ⊥) × (record_at (put (record_of k₀ f₀ (Some f₀) x₀) s.records) k v ≡ record_at s.records k v))
      → Made (fast_commit m₀ f₀ k₀ x₀ ∷ h.commits) v n k x
  fast_made k v n x e f (inl p) = record { commit = fast_commit m₀ f₀ k₀ x₀; among = inl refl; version_is = sym p.1; number_is = grind arith; wrote_it = grind (arith, nat_tests) }
  fast_made k v n x e f (inr p) = made_more (fast_commit m₀ f₀ k₀ x₀) h.commits v n k x (B.stamp_commit k v n x (ap record_number (sym p.1) ∙ e) (ap record_value (sym p.1) ∙ f))

  fast_new : (k : ℕ) (x : V) → only k₀ x₀ k ≡ Some x → Kept (put (record_of k₀ f₀ (Some f₀) x₀) s.records) s.entries s.floor k f₀ f₀ x
  fast_new k x e = by_stamp (grind (arith, nat_tests, put_says (record_of k₀ f₀ (Some f₀) x₀) s.records k f₀)) (grind (arith, nat_tests, put_says (record_of k₀ f₀ (Some f₀) x₀) s.records k f₀))

  kept_fast : (k v n : ℕ) (x : V) → Kept s.records s.entries s.floor k v n x → Kept (put (record_of k₀ f₀ (Some f₀) x₀) s.records) s.entries s.floor k v n x
  kept_fast k v n x (by_stamp e f) = by_stamp (grind (arith, put_says (record_of k₀ f₀ (Some f₀) x₀) s.records k v)) (grind (arith, put_says (record_of k₀ f₀ (Some f₀) x₀) s.records k v))
  kept_fast k v n x (by_entry e f) = by_entry (grind (arith, put_says (record_of k₀ f₀ (Some f₀) x₀) s.records k v)) f
  kept_fast k v n x (hidden w m e a b) = hidden w m (grind (arith, put_says (record_of k₀ f₀ (Some f₀) x₀) s.records k w)) a b

  pub fast_tables : Tables (with_records (put (record_of k₀ f₀ (Some f₀) x₀) s.records) s) (add_commit (fast_commit m₀ f₀ k₀ x₀) h)
  fast_tables =
      record {
        pending = λ k v x e. B.pending k v x (grind (arith, put_says (record_of k₀ f₀ (Some f₀) x₀) s.records k v));
        stamp_class = λ k v n e. grind (arith, put_says (record_of k₀ f₀ (Some f₀) x₀) s.records k v, B.stamp_class k v n);
        stamp_commit = λ k v n x e f. fast_made k v n x e f (put_says (record_of k₀ f₀ (Some f₀) x₀) s.records k v);
        sealing = B.sealing;
        aborted_row = B.aborted_row;
        settled = λ i n e. done_more (fast_commit m₀ f₀ k₀ x₀) h.commits h.writes i n (B.settled i n e);
        keyed = B.keyed;
        unstamped = B.unstamped;
        held = λ i k e f m. grind (arith, put_says (record_of k₀ f₀ (Some f₀) x₀) s.records k i, B.held i k, no_row i (key_row (look_up s.rows i) k m));
        uncommitted = λ i d e f m v. ⊎_elim (λ q. grind (arith, no_row i e, ap (λ (c : Commit V). c.version) q)) (λ m. B.uncommitted i d e f m v) m;
        one_number = λ k v m n e f. grind (arith, put_says (record_of k₀ f₀ (Some f₀) x₀) s.records k v, B.one_number k v m n, no_row v (seal_row (look_up s.rows v) n (B.sealing v ∙ e)));
        kept = λ d k x m e. in_cons (λ d. (k : ℕ) (x : V) → d.values k ≡ Some x → Kept (put (record_of k₀ f₀ (Some f₀) x₀) s.records) s.entries s.floor k d.version d.number x) (fast_commit m₀ f₀ k₀ x₀) h.commits fast_new (λ d m k x e. kept_fast k d.version d.number x (B.kept d k x m e)) d m k x e;
        sorted = up_put (record_of k₀ f₀ (Some f₀) x₀) s.records B.sorted;
      }
