-- Time: what each change of a state or a summary leaves of the facts on clocks, ids and numbers.
use Rattle.std.proofs.Common.{◌≡◌, ℕ, suc, ◌+◌, ◌*◌, ◌%◌, ◌<◌, ◌≤◌, Bool, true, false, cond, ◌&&◌, eqb, ◌⊎◌, List, [], ◌∷◌, Some, None, Option, sym, refl, ap, ◌∙◌, subst, inl, inr, ⊎_elim, arith}
use Rattle.std.proofs.lemmas.Bool.Decides.{nat_tests}
use Rattle.model.specs.Numbers.{U, last_step}
use Rattle.model.specs.Maps.{number_or_0, is_there, look_up, enter, remove}
use Rattle.model.specs.Transactions.{Transaction}
use Rattle.model.specs.Managers.{Seat}
use Rattle.model.specs.State.{State, with_rows, with_seat, with_floor, taken_over, raise_class_of}
use Rattle.history.specs.Past.{AnsweredRead, In, began, wrote}
use Rattle.history.proofs.Summaries.{Commit, Summary, with_effect}
use Rattle.model.proofs.Parts.{number_in, clock_at, end_at}
use Rattle.history.proofs.Facts.{bound_of, bound, Time}
use Rattle.model.proofs.LookUps.{enter_says, remove_says}
use Rattle.model.proofs.VersionLists.{class_says}
use Rattle.model.proofs.View.{Stepped, s_within, s_extend}

look_none : {X : Type 0} (q : ℕ) → look_up {X = X} [] q ≡ None
unfolding look_up
look_none q = refl

-- what holds of the head and of all in the tail
pub in_cons : {A : Type 0} (P : A → Type 0) (c : A) (cs : List A) → P c → ((d : A) → In d cs → P d) → (d : A) → In d (c ∷ cs) → P d
in_cons P c cs p f d (inl e) = subst P e p
in_cons P c cs p f d (inr m) = f d m

-- the summary with one more commit, or one more read
abbrev pub add_commit : {V : Type 0} → Commit V → Summary V → Summary V
add_commit c h = record { ids = h.ids; writes = h.writes; commits = c ∷ h.commits; reads = h.reads }

abbrev pub add_read : {V : Type 0} → AnsweredRead V → Summary V → Summary V
add_read r h = record { ids = h.ids; writes = h.writes; commits = h.commits; reads = r ∷ h.reads }

-- the bound is a step, and no step beyond the cell
pub bound_step : {V : Type 0} (s : State V) → bound s % U ≡ 0
bound_step s = go s.in_charge
  where
    go : (o : Option ℕ) → bound_of o s.seats s.cell % U ≡ 0
    go None = omega arith
    go (Some q) = omega arith

pub bound_cell : {V : Type 0} (s : State V) (h : Summary V) → Time s h → bound s ≤ s.cell * U
bound_cell s h T = go s.in_charge
  where
    go : (o : Option ℕ) → bound_of o s.seats s.cell ≤ s.cell * U
    go None = omega arith
    go (Some q) = let p = T.shape q in omega arith

-- the seat q is in charge or not
pub in_charge : (o : Option ℕ) (q : ℕ) → (o ≡ Some q) ⊎ (o ≡ Some q → ⊥)
in_charge None q = inr (λ e. grind arith)
in_charge (Some p) q = pick (eqb p q) refl
  where
    pick : (b : Bool) → eqb p q ≡ b → (Some p ≡ Some q) ⊎ (Some p ≡ Some q → ⊥)
    pick true e = inl (grind (arith, nat_tests))
    pick false e = inr (λ f. grind (arith, nat_tests))

-- a class number rises
module _ {V : Type 0} (s : State V) (h : Summary V) (T : Time s h) (k₀ n₀ : ℕ) (lt : n₀ < bound s) where
  pub class_time : Time (raise_class_of k₀ n₀ s) (h)
  class_time =
      record {
        floor_fence = T.floor_fence;
        fence_bound = T.fence_bound;
        cell_limit = T.cell_limit;
        span_there = T.span_there;
        charge_end = T.charge_end;
        stale = T.stale;
        shape = T.shape;
        apart = T.apart;
        conflicts = T.conflicts;
        begun = T.begun;
        unused = T.unused;
        rows_begun = T.rows_begun;
        writes_begun = T.writes_begun;
        numbers = T.numbers;
        commits = T.commits;
        by_settle = T.by_settle;
        by_fast_call = T.by_fast_call;
        classes = λ k. grind (arith, class_says k₀ n₀ s.classes k T.sixty_four, T.classes k);
        sixty_four = (class_says k₀ n₀ s.classes 0 T.sixty_four).3;
        readers = T.readers;
      }

-- a row that stands changes
module _ {V : Type 0} (s : State V) (h : Summary V) (T : Time s h) (id : ℕ) (r : Transaction) (there : is_there (look_up s.rows id) ≡ true) (num : (c : ℕ) → number_in r.phase ≡ Some c → (id < c) × (c < bound s)) where
  pub row_time : Time (with_rows (enter id r s.rows) s) (h)
  row_time =
      record {
        floor_fence = T.floor_fence;
        fence_bound = T.fence_bound;
        cell_limit = T.cell_limit;
        span_there = T.span_there;
        charge_end = T.charge_end;
        stale = T.stale;
        shape = T.shape;
        apart = T.apart;
        conflicts = T.conflicts;
        begun = T.begun;
        unused = T.unused;
        rows_begun = λ i e. ⊎_elim (λ p. rw p.0 (T.rows_begun id there)) (λ p. T.rows_begun i (ap is_there (sym p.1) ∙ e)) (enter_says id r s.rows i);
        writes_begun = T.writes_begun;
        numbers = λ i c e. grind (arith, enter_says, T.numbers i c, num c);
        commits = T.commits;
        by_settle = T.by_settle;
        by_fast_call = T.by_fast_call;
        classes = T.classes;
        sixty_four = T.sixty_four;
        readers = T.readers;
      }

-- a row goes
module _ {V : Type 0} (s : State V) (h : Summary V) (T : Time s h) (id : ℕ) where
  pub gone_time : Time (with_rows (remove id s.rows) s) (h)
  gone_time =
      record {
        floor_fence = T.floor_fence;
        fence_bound = T.fence_bound;
        cell_limit = T.cell_limit;
        span_there = T.span_there;
        charge_end = T.charge_end;
        stale = T.stale;
        shape = T.shape;
        apart = T.apart;
        conflicts = T.conflicts;
        begun = T.begun;
        unused = T.unused;
        rows_begun = λ i e. T.rows_begun i (grind (arith, remove_says id s.rows i));
        writes_begun = T.writes_begun;
        numbers = λ i c e. grind (arith, remove_says, T.numbers i c);
        commits = T.commits;
        by_settle = T.by_settle;
        by_fast_call = T.by_fast_call;
        classes = T.classes;
        sixty_four = T.sixty_four;
        readers = T.readers;
      }

-- floor and fence rise
module _ {V : Type 0} (s : State V) (h : Summary V) (T : Time s h) (h₀ : ℕ) (le : h₀ ≤ bound s) where
  pub raise_time : Time (with_floor h₀ s) (h)
  raise_time =
      record {
        floor_fence = omega (arith, T.floor_fence);
        fence_bound = omega (arith, T.fence_bound);
        cell_limit = T.cell_limit;
        span_there = T.span_there;
        charge_end = T.charge_end;
        stale = λ q e. let p = T.stale q e in (omega arith, p.1);
        shape = T.shape;
        apart = T.apart;
        conflicts = T.conflicts;
        begun = T.begun;
        unused = T.unused;
        rows_begun = T.rows_begun;
        writes_begun = T.writes_begun;
        numbers = T.numbers;
        commits = T.commits;
        by_settle = T.by_settle;
        by_fast_call = T.by_fast_call;
        classes = T.classes;
        sixty_four = T.sixty_four;
        readers = T.readers;
      }

-- a seat takes over
module _ {V : Type 0} (s : State V) (h : Summary V) (T : Time s h) (q₀ : ℕ) (fits : s.cell + s.opening.span ≤ last_step) where
  pub take_time : Time (taken_over q₀ s) (h)
  take_time =
      let low : bound s ≤ s.cell * U = bound_cell s h T in
      record {
        floor_fence = omega (arith, T.floor_fence);
        fence_bound = grind (arith, enter_says, T.fence_bound, low);
        cell_limit = fits;
        span_there = T.span_there;
        charge_end = λ q e. grind (arith, enter_says);
        stale = λ q e. grind (arith, enter_says, T.shape q, T.span_there);
        shape = λ q. grind (arith, enter_says, T.shape q);
        apart = λ p q e. grind (arith, enter_says, T.apart p q, T.shape p, T.shape q);
        conflicts = λ q k. grind (arith, enter_says, T.conflicts q k, look_none {X = ℕ} k);
        begun = λ i m. grind (arith, enter_says, T.begun i m, low);
        unused = λ q i m b. grind (arith, enter_says, T.begun i m, T.unused q i m, low);
        rows_begun = T.rows_begun;
        writes_begun = T.writes_begun;
        numbers = λ i c e. grind (arith, enter_says, T.numbers i c, low);
        commits = λ d m. grind (arith, enter_says, T.commits d m, low);
        by_settle = T.by_settle;
        by_fast_call = T.by_fast_call;
        classes = λ k. grind (arith, enter_says, T.classes k, low);
        sixty_four = T.sixty_four;
        readers = λ r m. grind (arith, enter_says, T.readers r m, low);
      }

-- what a step taken at the seat q says of cell, span and charge
pub record Steps {V : Type 0} (s : State V) (q : ℕ) (t : Seat) (c : ℕ) (u : Seat) : Type 0 where
  pub clock_is : u.clock ≡ suc t.clock
  pub inside : u.clock ≤ u.end
  pub fits : c ≤ last_step
  pub same_low : u.low ≡ t.low
  pub same_table : u.conflicts ≡ t.conflicts
  pub either : ((u.end ≡ t.end) × (c ≡ s.cell)) ⊎ ((s.in_charge ≡ Some q) × (u.end ≡ c) × (t.clock ≡ s.cell) × (s.cell < c))

pub steps : {V : Type 0} (s : State V) (h : Summary V) → Time s h → (q : ℕ) (t : Seat) (c : ℕ) (u : Seat) → look_up s.seats q ≡ Some t → Stepped s t c u → Steps s q t c u
steps s h T q t _ _ at (s_within n) = record { clock_is = refl; inside = grind (arith, T.shape q); fits = T.cell_limit; same_low = refl; same_table = refl; either = inl (refl, refl) }
steps s h T q t _ _ at (s_extend e f fits) = record { clock_is = refl; inside = grind (arith, T.span_there); fits = fits; same_low = refl; same_table = refl; either = pick (in_charge s.in_charge q) }
  where
    pick : (s.in_charge ≡ Some q) ⊎ (s.in_charge ≡ Some q → ⊥) → ((t.end + s.opening.span ≡ t.end) × (s.cell + s.opening.span ≡ s.cell)) ⊎ ((s.in_charge ≡ Some q) × (t.end + s.opening.span ≡ s.cell + s.opening.span) × (t.clock ≡ s.cell) × (s.cell < s.cell + s.opening.span))
    pick (inl i) = inr (i, grind arith, grind arith, grind (arith, T.span_there))
    pick (inr n) = absurd (grind (arith, T.stale q n))

-- the bound before and after a step at the seat q
pub seat_bound : {V : Type 0} (s : State V) (q : ℕ) (t : Seat) (c : ℕ) (u w : Seat) → look_up s.seats q ≡ Some t → Steps s q t c u → w.clock ≡ u.clock
    → ((s.in_charge ≡ Some q) × (bound s ≡ t.clock * U) × (bound_of s.in_charge (enter q w s.seats) c ≡ u.clock * U)) ⊎ ((s.in_charge ≡ Some q → ⊥) × (bound_of s.in_charge (enter q w s.seats) c ≡ bound s))
seat_bound s q t c u w at z ck = go s.in_charge (in_charge s.in_charge q) z.either
  where
    go : (o : Option ℕ) → (o ≡ Some q) ⊎ (o ≡ Some q → ⊥) → ((u.end ≡ t.end) × (c ≡ s.cell)) ⊎ ((o ≡ Some q) × (u.end ≡ c) × (t.clock ≡ s.cell) × (s.cell < c))
        → ((o ≡ Some q) × (bound_of o s.seats s.cell ≡ t.clock * U) × (bound_of o (enter q w s.seats) c ≡ u.clock * U)) ⊎ ((o ≡ Some q → ⊥) × (bound_of o (enter q w s.seats) c ≡ bound_of o s.seats s.cell))
    go None (inl e) f = grind arith
    go None (inr e) (inl f) = inr (e, ap (λ n. n * U) f.1)
    go None (inr e) (inr f) = grind arith
    go (Some p) (inl e) f = inl (e, grind (arith, enter_says), grind (arith, enter_says))
    go (Some p) (inr e) f = inr (e, grind (arith, enter_says))

-- a step is taken at the seat q₀, which is then w
module _ {V : Type 0} (s : State V) (h : Summary V) (T : Time s h) (q₀ : ℕ) (t : Seat) (c₀ : ℕ) (u w : Seat) (at : look_up s.seats q₀ ≡ Some t) (z : Steps s q₀ t c₀ u) (ck : w.clock ≡ u.clock) (en : w.end ≡ u.end) (lo : w.low ≤ u.clock * U) (co : (k : ℕ) → number_or_0 (look_up w.conflicts k) ≤ u.clock * U) where
  pub seat_time : Time (with_seat q₀ w c₀ s) (h)
  seat_time =
      let bnd = seat_bound s q₀ t c₀ u w at z ck in
      let up : bound s ≤ bound_of s.in_charge (enter q₀ w s.seats) c₀ = grind (arith, bnd, z.clock_is) in
      record {
        floor_fence = T.floor_fence;
        fence_bound = grind (arith, up, T.fence_bound);
        cell_limit = z.fits;
        span_there = T.span_there;
        charge_end = λ q e. grind (arith, enter_says, T.charge_end q e, T.charge_end q₀, z.either);
        stale = λ q e. grind (arith, enter_says, T.stale q e, z.either);
        shape = λ q. grind (arith, enter_says, T.shape q, z.either, z.clock_is, z.inside);
        apart = λ p q e. grind (arith, enter_says, T.apart p q, T.shape p, T.shape q, z.either, z.clock_is);
        conflicts = λ q k. grind (arith, enter_says, T.conflicts q k, co k);
        begun = λ i m. grind (arith, up, T.begun i m);
        unused = λ q i m b. grind (arith, enter_says, T.unused q i m, T.begun i m, bnd, z.either, z.clock_is);
        rows_begun = T.rows_begun;
        writes_begun = T.writes_begun;
        numbers = λ i c e. grind (arith, up, T.numbers i c);
        commits = λ d m. grind (arith, up, T.commits d m);
        by_settle = T.by_settle;
        by_fast_call = T.by_fast_call;
        classes = λ k. grind (arith, up, T.classes k);
        sixty_four = T.sixty_four;
        readers = λ r m. grind (arith, up, T.readers r m);
      }

-- the id of a step is new
pub record New {V : Type 0} (s : State V) (i : ℕ) : Type 0 where
  pub is_step : i % U ≡ 0
  pub under : i < bound s
  pub free : (q : ℕ) → clock_at (look_up s.seats q) * U ≤ i → end_at (look_up s.seats q) * U ≤ i

pub step_new : {V : Type 0} (s : State V) (h : Summary V) → Time s h → (q₀ : ℕ) (t : Seat) (c₀ : ℕ) (u w : Seat) → look_up s.seats q₀ ≡ Some t → Steps s q₀ t c₀ u → w.clock ≡ u.clock → w.end ≡ u.end
    → New (with_seat q₀ w c₀ s) (t.clock * U)
step_new s h T q₀ t c₀ u w at z ck en =
    let bnd = seat_bound s q₀ t c₀ u w at z ck in
    record {
      is_step = omega arith;
      under = grind (arith, bnd, z.clock_is, z.inside, z.either, T.stale q₀, T.fence_bound);
      free = λ q b. grind (arith, enter_says, z.clock_is, z.inside, z.either, T.apart q₀ q, T.shape q, T.shape q₀);
    }

-- a row begins
module _ {V : Type 0} (s : State V) (h : Summary V) (T : Time s h) (i₀ : ℕ) (r : Transaction) (num : number_in r.phase ≡ None) (z : New s i₀) where
  pub begin_time : Time (with_rows (enter i₀ r s.rows) s) (with_effect (began i₀) h)
  begin_time =
      record {
        floor_fence = T.floor_fence;
        fence_bound = T.fence_bound;
        cell_limit = T.cell_limit;
        span_there = T.span_there;
        charge_end = T.charge_end;
        stale = T.stale;
        shape = T.shape;
        apart = T.apart;
        conflicts = T.conflicts;
        begun = λ i m. ⊎_elim (λ e. rw (← e) (z.is_step, z.under)) (λ m. T.begun i m) m;
        unused = λ q i m b. ⊎_elim (λ e. grind (arith, z.free q)) (λ m. T.unused q i m b) m;
        rows_begun = λ i e. ⊎_elim (λ p. inl (sym p.0)) (λ p. inr (T.rows_begun i (ap is_there (sym p.1) ∙ e))) (enter_says i₀ r s.rows i);
        writes_begun = λ i k x e. inr (T.writes_begun i k x e);
        numbers = λ i c e. grind (arith, enter_says, T.numbers i c);
        commits = T.commits;
        by_settle = λ d m f. let p = T.by_settle d m f in (p.0, p.1, inr p.2);
        by_fast_call = T.by_fast_call;
        classes = T.classes;
        sixty_four = T.sixty_four;
        readers = T.readers;
      }

-- a write is told
module _ {V : Type 0} (s : State V) (h : Summary V) (T : Time s h) (id k₀ : ℕ) (x₀ : V) (there : is_there (look_up s.rows id) ≡ true) where
  writes : (i k : ℕ) (x : V) (b : Bool) → (eqb i id && eqb k k₀) ≡ b → cond b (Some x₀) (h.writes i k) ≡ Some x → In i h.ids
  writes i k x true e f = let j : i ≡ id = grind (arith, nat_tests) in rw j (T.rows_begun id there)
  writes i k x false e f = T.writes_begun i k x f

  pub write_time : Time (s) (with_effect (wrote id k₀ x₀) h)
  write_time =
      record {
        floor_fence = T.floor_fence;
        fence_bound = T.fence_bound;
        cell_limit = T.cell_limit;
        span_there = T.span_there;
        charge_end = T.charge_end;
        stale = T.stale;
        shape = T.shape;
        apart = T.apart;
        conflicts = T.conflicts;
        begun = T.begun;
        unused = T.unused;
        rows_begun = T.rows_begun;
        writes_begun = λ i k x e. writes i k x (eqb i id && eqb k k₀) refl e;
        numbers = T.numbers;
        commits = T.commits;
        by_settle = T.by_settle;
        by_fast_call = T.by_fast_call;
        classes = T.classes;
        sixty_four = T.sixty_four;
        readers = T.readers;
      }

-- a commit is told
module _ {V : Type 0} (s : State V) (h : Summary V) (T : Time s h) (c₀ : Commit V) (num : (c₀.number < bound s) × (c₀.start ≤ c₀.version) × (c₀.version ≤ c₀.number)) (reg : c₀.fast ≡ false → (c₀.start ≡ c₀.version) × (c₀.version < c₀.number) × In c₀.version h.ids)
    (fst : c₀.fast ≡ true → (c₀.version ≡ c₀.number) × (c₀.number % U ≡ 0 → ⊥)) where
  pub commit_time : Time (s) (add_commit c₀ h)
  commit_time =
      record {
        floor_fence = T.floor_fence;
        fence_bound = T.fence_bound;
        cell_limit = T.cell_limit;
        span_there = T.span_there;
        charge_end = T.charge_end;
        stale = T.stale;
        shape = T.shape;
        apart = T.apart;
        conflicts = T.conflicts;
        begun = T.begun;
        unused = T.unused;
        rows_begun = T.rows_begun;
        writes_begun = T.writes_begun;
        numbers = T.numbers;
        commits = in_cons (λ d. (d.number < bound s) × (d.start ≤ d.version) × (d.version ≤ d.number)) c₀ h.commits num T.commits;
        by_settle = in_cons (λ d. d.fast ≡ false → (d.start ≡ d.version) × (d.version < d.number) × In d.version h.ids) c₀ h.commits reg T.by_settle;
        by_fast_call = in_cons (λ d. d.fast ≡ true → (d.version ≡ d.number) × (d.number % U ≡ 0 → ⊥)) c₀ h.commits fst T.by_fast_call;
        classes = T.classes;
        sixty_four = T.sixty_four;
        readers = T.readers;
      }

-- a read is told
module _ {V : Type 0} (s : State V) (h : Summary V) (T : Time s h) (r₀ : AnsweredRead V) (lt : r₀.id < bound s) where
  pub read_time : Time (s) (add_read r₀ h)
  read_time =
      record {
        floor_fence = T.floor_fence;
        fence_bound = T.fence_bound;
        cell_limit = T.cell_limit;
        span_there = T.span_there;
        charge_end = T.charge_end;
        stale = T.stale;
        shape = T.shape;
        apart = T.apart;
        conflicts = T.conflicts;
        begun = T.begun;
        unused = T.unused;
        rows_begun = T.rows_begun;
        writes_begun = T.writes_begun;
        numbers = T.numbers;
        commits = T.commits;
        by_settle = T.by_settle;
        by_fast_call = T.by_fast_call;
        classes = T.classes;
        sixty_four = T.sixty_four;
        readers = in_cons (λ r. r.id < bound s) r₀ h.reads lt T.readers;
      }
