-- Order: what each change leaves of the facts on the order of commits and validated rows.
use Rattle.std.proofs.Common.{◌≡◌, ℕ, ◌+◌, ◌*◌, ◌<◌, ◌≤◌, max, true, false, ◌⊎◌, List, [], Some, None, Option, refl, ap, ◌∙◌, inl, ⊎_elim, arith}
use Rattle.std.proofs.lemmas.Bool.Decides.{nat_tests}
use Rattle.model.specs.declared.words.CommitEntry.TheVariants.{Committed, Aborted}
use Rattle.model.specs.declared.words.Phase.{Phase}
use Rattle.model.specs.declared.words.Phase.TheVariants.{Open, Validated, Settled}
use Rattle.model.specs.Numbers.{U}
use Rattle.model.specs.Maps.{number_or_0, is_there, look_up, enter}
use Rattle.model.specs.Transactions.{member, with_key, Transaction, transaction}
use Rattle.model.specs.Managers.{Seat, seat}
use Rattle.model.specs.State.{State, with_rows, with_entries, with_seat, with_floor, taken_over}
use Rattle.model.specs.Stamping.{row_gone}
use Rattle.model.specs.Settling.{settled}
use Rattle.history.specs.Past.{In, only}
use Rattle.history.proofs.Summaries.{Commit, Summary, settled_commit, fast_commit, Apart}
use Rattle.model.proofs.Parts.{number_in, validated_in, settled_in, open_in, row_number, validated_number, settled_number, is_open, has_key, is_aborted, low_at, conflict_at}
use Rattle.history.proofs.Facts.{bound, Time, Tables, Order}
use Rattle.model.proofs.LookUps.{enter_says, remove_says, with_key_says}
use Rattle.history.proofs.TimeKept.{add_commit, in_cons, bound_cell}

pub val_unsealed : (o : Option Transaction) (c : ℕ) → validated_number o ≡ Some c → settled_number o ≡ None
val_unsealed None c e = refl
val_unsealed (Some r) c e = go r.phase e
  where
    go : (p : Phase) → validated_in p ≡ Some c → settled_in p ≡ None
    go Open e = refl
    go (Validated d) e = refl
    go (Settled d) e = grind arith

pub open_unsealed : (o : Option Transaction) → is_open o ≡ true → settled_number o ≡ None
open_unsealed None e = refl
open_unsealed (Some r) e = go r.phase e
  where
    go : (p : Phase) → open_in p ≡ true → settled_in p ≡ None
    go Open e = refl
    go (Validated d) e = grind arith
    go (Settled d) e = grind arith

pub val_num : (o : Option Transaction) (c : ℕ) → validated_number o ≡ Some c → row_number o ≡ Some c
val_num None c e = e
val_num (Some r) c e = go r.phase e
  where
    go : (p : Phase) → validated_in p ≡ Some c → number_in p ≡ Some c
    go Open e = e
    go (Validated d) e = e
    go (Settled d) e = grind arith

-- an entry is aborted
module _ {V : Type 0} (s : State V) (h : Summary V) (O : Order s h) (v₀ : ℕ) where
  pub abort_order : Order (with_entries (enter v₀ Aborted s.entries) s) (h)
  abort_order =
      record {
        ordered = O.ordered;
        val_commit = λ i c k d x e l y m w. grind (arith, enter_says v₀ Aborted s.entries i, O.val_commit i c k d x);
        val_val = λ i j c g k ne e f l l' y y'. grind (arith, enter_says v₀ Aborted s.entries i, enter_says v₀ Aborted s.entries j, O.val_val i j c g k);
        open_fast = O.open_fast;
        recalls_commit = O.recalls_commit;
        recalls_row = O.recalls_row;
      }

-- floor and fence rise
module _ {V : Type 0} (s : State V) (h : Summary V) (O : Order s h) (h₀ : ℕ) where
  pub raise_order : Order (with_floor h₀ s) (h)
  raise_order =
      record {
        ordered = O.ordered;
        val_commit = λ i c k d x e l y m w. O.val_commit i c k d x e (omega arith, l.1) y m w;
        val_val = λ i j c g k ne e f l l' y y'. O.val_val i j c g k ne e f (omega arith, l.1) (omega arith, l'.1) y y';
        open_fast = λ i k d x e l y m f w. O.open_fast i k d x e (omega arith) y m f w;
        recalls_commit = O.recalls_commit;
        recalls_row = O.recalls_row;
      }

-- a row and its entry go
module _ {V : Type 0} (s : State V) (h : Summary V) (O : Order s h) (id : ℕ) where
  pub gone_order : Order (row_gone id s) (h)
  gone_order =
      record {
        ordered = O.ordered;
        val_commit = λ i c k d x e l y m w. grind (arith, remove_says id s.rows i, remove_says id s.entries i, O.val_commit i c k d x);
        val_val = λ i j c g k ne e f l l' y y'. grind (arith, remove_says id s.rows i, remove_says id s.entries i, remove_says id s.rows j, remove_says id s.entries j, O.val_val i j c g k);
        open_fast = λ i k d x e l y m f w. grind (arith, remove_says id s.rows i, O.open_fast i k d x);
        recalls_commit = O.recalls_commit;
        recalls_row = λ q k i c e f y. grind (arith, remove_says id s.rows i, O.recalls_row q k i c);
      }

-- a row is settled
module _ {V : Type 0} (s : State V) (h : Summary V) (O : Order s h) (id : ℕ) (r : Transaction) (quiet : validated_in r.phase ≡ None) (shut : open_in r.phase ≡ false) where
  pub quiet_order : Order (with_rows (enter id r s.rows) s) (h)
  quiet_order =
      record {
        ordered = O.ordered;
        val_commit = λ i c k d x e l y m w. grind (arith, enter_says id r s.rows i, O.val_commit i c k d x);
        val_val = λ i j c g k ne e f l l' y y'. grind (arith, enter_says id r s.rows i, enter_says id r s.rows j, O.val_val i j c g k);
        open_fast = λ i k d x e l y m f w. grind (arith, enter_says id r s.rows i, O.open_fast i k d x);
        recalls_commit = O.recalls_commit;
        recalls_row = λ q k i c e f y. grind (arith, enter_says id r s.rows i, O.recalls_row q k i c);
      }

-- a seat takes over: its low is above every number
module _ {V : Type 0} (s : State V) (h : Summary V) (T : Time s h) (O : Order s h) (q₀ : ℕ) where
  pub take_order : Order (taken_over q₀ s) (h)
  take_order =
      let low : bound s ≤ s.cell * U = bound_cell s h T in
      record {
        ordered = O.ordered;
        val_commit = λ i c k d x e l y m w. O.val_commit i c k d x e (omega arith, l.1) y m w;
        val_val = λ i j c g k ne e f l l' y y'. O.val_val i j c g k ne e f (omega arith, l.1) (omega arith, l'.1) y y';
        open_fast = λ i k d x e l y m f w. O.open_fast i k d x e (omega arith) y m f w;
        recalls_commit = λ q k d x e m f w. let a = (T.commits d m).0 in grind (arith, enter_says q₀ (seat s.cell (s.cell + s.opening.span) (s.cell * U) []) s.seats q, low);
        recalls_row = λ q k i c e f y. let a = (T.numbers i c (val_num (look_up s.rows i) c f)).1 in grind (arith, enter_says q₀ (seat s.cell (s.cell + s.opening.span) (s.cell * U) []) s.seats q, low);
      }

-- a seat forgets nothing
module _ {V : Type 0} (s : State V) (h : Summary V) (O : Order s h) (q₀ : ℕ) (t w : Seat) (c₀ : ℕ) (at : look_up s.seats q₀ ≡ Some t) (more : (k : ℕ) → max t.low (number_or_0 (look_up t.conflicts k)) ≤ max w.low (number_or_0 (look_up w.conflicts k))) where
  pub seat_order : Order (with_seat q₀ w c₀ s) (h)
  seat_order =
      record {
        ordered = O.ordered;
        val_commit = O.val_commit;
        val_val = O.val_val;
        open_fast = O.open_fast;
        recalls_commit = λ q k d x e m f w'. let a = O.recalls_commit q k d x e m f w' in grind (arith, enter_says q₀ w s.seats q, more k);
        recalls_row = λ q k i c e f y. let a = O.recalls_row q k i c e f y in grind (arith, enter_says q₀ w s.seats q, more k);
      }

-- a row is validated above every number on its keys
module _ {V : Type 0} (s : State V) (h : Summary V) (O : Order s h) (id c₀ : ℕ) (ks : List ℕ) (n₀ : ℕ) (at : look_up s.rows id ≡ Some (transaction Open ks n₀))
    (past : (k : ℕ) (d : Commit V) (x : V) → member k ks ≡ true → In d h.commits → d.values k ≡ Some x → d.number ≤ id)
    (others : (j e k : ℕ) → member k ks ≡ true → validated_number (look_up s.rows j) ≡ Some e → has_key (look_up s.rows j) k ≡ true → e ≤ id)
    (noted : (q k : ℕ) → s.in_charge ≡ Some q → member k ks ≡ true → c₀ ≤ max (low_at (look_up s.seats q)) (conflict_at (look_up s.seats q) k)) where
  pub validate_order : Order (with_rows (enter id (transaction (Validated c₀) ks n₀) s.rows) s) (h)
  validate_order =
      record {
        ordered = O.ordered;
        val_commit = λ i c k d x e l y m w. ⊎_elim (λ p. inl (grind (arith, past k d x))) (λ p. grind (arith, O.val_commit i c k d x)) (enter_says id (transaction (Validated c₀) ks n₀) s.rows i);
        val_val = λ i j c g k ne e f l l' y y'. grind (arith, enter_says id (transaction (Validated c₀) ks n₀) s.rows i, enter_says id (transaction (Validated c₀) ks n₀) s.rows j, O.val_val i j c g k, others i c k, others j g k);
        open_fast = λ i k d x e l y m f w. grind (arith, enter_says id (transaction (Validated c₀) ks n₀) s.rows i, O.open_fast i k d x);
        recalls_commit = O.recalls_commit;
        recalls_row = λ q k i c e f y. grind (arith, enter_says id (transaction (Validated c₀) ks n₀) s.rows i, O.recalls_row q k i c, noted q k);
      }

-- a row begins
module _ {V : Type 0} (s : State V) (h : Summary V) (O : Order s h) (i₀ : ℕ) where
  pub begin_order : Order (with_rows (enter i₀ (transaction Open [] 0) s.rows) s) (h)
  begin_order =
      record {
        ordered = O.ordered;
        val_commit = λ i c k d x e l y m w. grind (arith, enter_says i₀ (transaction Open [] 0) s.rows i, O.val_commit i c k d x);
        val_val = λ i j c g k ne e f l l' y y'. grind (arith, enter_says i₀ (transaction Open [] 0) s.rows i, enter_says i₀ (transaction Open [] 0) s.rows j, O.val_val i j c g k);
        open_fast = λ i k d x e l y m f w. grind (arith, enter_says i₀ (transaction Open [] 0) s.rows i, O.open_fast i k d x);
        recalls_commit = O.recalls_commit;
        recalls_row = λ q k i c e f y. grind (arith, enter_says i₀ (transaction Open [] 0) s.rows i, O.recalls_row q k i c);
      }

-- an open row writes a key without a newer fast commit
module _ {V : Type 0} (s : State V) (h : Summary V) (O : Order s h) (id k₀ : ℕ) (ks : List ℕ) (n₀ : ℕ) (at : look_up s.rows id ≡ Some (transaction Open ks n₀))
    (by_fast_call : (d : Commit V) (x : V) → In d h.commits → d.fast ≡ true → d.values k₀ ≡ Some x → d.number ≤ id) where
  pub write_order : Order (with_rows (enter id (transaction Open (with_key k₀ ks) n₀) s.rows) s) (h)
  write_order =
      record {
        ordered = O.ordered;
        val_commit = λ i c k d x e l y m w. grind (arith, enter_says id (transaction Open (with_key k₀ ks) n₀) s.rows i, O.val_commit i c k d x);
        val_val = λ i j c g k ne e f l l' y y'. grind (arith, enter_says id (transaction Open (with_key k₀ ks) n₀) s.rows i, enter_says id (transaction Open (with_key k₀ ks) n₀) s.rows j, O.val_val i j c g k);
        open_fast = λ i k d x e l y m f w. grind (arith, nat_tests, enter_says id (transaction Open (with_key k₀ ks) n₀) s.rows i, with_key_says k₀ ks k, by_fast_call d x, O.open_fast i k d x);
        recalls_commit = O.recalls_commit;
        recalls_row = λ q k i c e f y. grind (arith, enter_says id (transaction Open (with_key k₀ ks) n₀) s.rows i, O.recalls_row q k i c);
      }

-- a live validated row settles
module _ {V : Type 0} (s : State V) (h : Summary V) (T : Time s h) (B : Tables s h) (O : Order s h) (id c₀ : ℕ) (ks : List ℕ) (n₀ : ℕ) (at : look_up s.rows id ≡ Some (transaction (Validated c₀) ks n₀)) (fe : s.fence ≤ id) (na : is_aborted (look_up s.entries id) ≡ false) where
  key : (k : ℕ) (x : V) → h.writes id k ≡ Some x → has_key (look_up s.rows id) k ≡ true
  key k x w = B.keyed id k (ap is_there at) ∙ ap is_there w

  num : id < c₀
  num = (T.numbers id c₀ (ap row_number at)).0

  apart : (d : Commit V) → In d h.commits → Apart (settled_commit id c₀ (h.writes id)) d
  apart d m k x y e f =
      let p : (d.number ≤ id) ⊎ ((c₀ ≤ d.start) × (c₀ < d.number)) = O.val_commit id c₀ k d y (ap validated_number at) (fe, na) (key k x e) m f in
      (λ q. grind (arith, num), λ q. grind (arith, num), λ q. grind (arith, num))

  pub settle_order : Order (settled id c₀ ks n₀ (enter id (Committed c₀) s.entries) s).0 (add_commit (settled_commit id c₀ (h.writes id)) h)
  settle_order =
      record {
        ordered = (λ d m k x y e f. apart d m k x y e f, O.ordered);
        val_commit = λ i c k d x e l y m w. in_cons (λ d. (x : V) → d.values k ≡ Some x → (d.number ≤ i) ⊎ ((c ≤ d.start) × (c < d.number))) (settled_commit id c₀ (h.writes id)) h.commits (λ x w. grind (arith, enter_says id (transaction (Settled c₀) ks n₀) s.rows i, enter_says id (Committed c₀) s.entries i, O.val_val i id c c₀ k, key k x w, num)) (λ d m x w. grind (arith, enter_says id (transaction (Settled c₀) ks n₀) s.rows i, enter_says id (Committed c₀) s.entries i, O.val_commit i c k d x)) d m x w;
        val_val = λ i j c g k ne e f l l' y y'. grind (arith, enter_says id (transaction (Settled c₀) ks n₀) s.rows i, enter_says id (Committed c₀) s.entries i, enter_says id (transaction (Settled c₀) ks n₀) s.rows j, enter_says id (Committed c₀) s.entries j, O.val_val i j c g k);
        open_fast = λ i k d x e l y m f w. in_cons (λ d. d.fast ≡ true → d.values k ≡ Some x → d.number ≤ i) (settled_commit id c₀ (h.writes id)) h.commits (λ f w. grind arith) (λ d m f w. grind (arith, enter_says id (transaction (Settled c₀) ks n₀) s.rows i, O.open_fast i k d x)) d m f w;
        recalls_commit = λ q k d x e m f w. in_cons (λ d. d.fast ≡ false → d.values k ≡ Some x → d.number ≤ max (low_at (look_up s.seats q)) (conflict_at (look_up s.seats q) k)) (settled_commit id c₀ (h.writes id)) h.commits (λ f w. O.recalls_row q k id c₀ e (ap validated_number at) (key k x w)) (λ d m f w. O.recalls_commit q k d x e m f w) d m f w;
        recalls_row = λ q k i c e f y. grind (arith, enter_says id (transaction (Settled c₀) ks n₀) s.rows i, O.recalls_row q k i c);
      }

-- a fast commit above every commit on its key, which no row that can settle has
module _ {V : Type 0} (s : State V) (h : Summary V) (O : Order s h) (m₀ k₀ f₀ : ℕ) (x₀ : V)
    (greater_of : (d : Commit V) (x : V) → In d h.commits → d.values k₀ ≡ Some x → (d.number < f₀) × (d.number ≤ m₀))
    (rowless : (i : ℕ) → settled_number (look_up s.rows i) ≡ None → s.fence ≤ i → has_key (look_up s.rows i) k₀ ≡ true → ⊥) where
  one_key : (k : ℕ) (x : V) → only k₀ x₀ k ≡ Some x → k ≡ k₀
  one_key k x e = grind (arith, nat_tests)

  same : (k : ℕ) (x : V) (i : ℕ) → only k₀ x₀ k ≡ Some x → has_key (look_up s.rows i) k ≡ true → has_key (look_up s.rows i) k₀ ≡ true
  same k x i e y = rw (one_key k x e) at y

  fast_apart : (d : Commit V) → In d h.commits → Apart (fast_commit m₀ f₀ k₀ x₀) d
  fast_apart d m k x y e f =
      let p = greater_of d y m (rw (one_key k x e) at f) in
      (λ q. omega arith, λ q. absurd (omega arith), λ q. omega arith)

  pub fast_order : Order (s) (add_commit (fast_commit m₀ f₀ k₀ x₀) h)
  fast_order =
      record {
        ordered = (λ d m k x y e f. fast_apart d m k x y e f, O.ordered);
        val_commit = λ i c k d x e l y m w. in_cons (λ d. (x : V) → d.values k ≡ Some x → (d.number ≤ i) ⊎ ((c ≤ d.start) × (c < d.number))) (fast_commit m₀ f₀ k₀ x₀) h.commits (λ x w. absurd (rowless i (val_unsealed (look_up s.rows i) c e) l.0 (same k x i w y))) (λ d m x w. O.val_commit i c k d x e l y m w) d m x w;
        val_val = O.val_val;
        open_fast = λ i k d x e l y m f w. in_cons (λ d. d.fast ≡ true → d.values k ≡ Some x → d.number ≤ i) (fast_commit m₀ f₀ k₀ x₀) h.commits (λ f w. absurd (rowless i (open_unsealed (look_up s.rows i) e) l (same k x i w y))) (λ d m f w. O.open_fast i k d x e l y m f w) d m f w;
        recalls_commit = λ q k d x e m f w. in_cons (λ d. d.fast ≡ false → d.values k ≡ Some x → d.number ≤ max (low_at (look_up s.seats q)) (conflict_at (look_up s.seats q) k)) (fast_commit m₀ f₀ k₀ x₀) h.commits (λ f w. grind arith) (λ d m f w. O.recalls_commit q k d x e m f w) d m f w;
        recalls_row = O.recalls_row;
      }
