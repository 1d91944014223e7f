-- A manager's part of a validation is that of the reference step.
use Rattle.std.proofs.Common.{◌≡◌, ℕ, ◌+◌, ◌*◌, ◌/◌, ◌≤◌, Bool, true, false, cond, ltb, leb, List, Some, None, Ok, Err, Option, Result, sym, refl, ap, ◌∙◌, arith}
use Rattle.std.proofs.lemmas.Bool.{ne_eqb}
use Rattle.std.proofs.lemmas.Bool.Decides.{nat_tests}
use Rattle.model.specs.declared.words.Phase.TheVariants.{Validated}
use Rattle.model.specs.declared.refusal.Refusal.{Refusal}
use Rattle.model.specs.declared.refusal.Refusal.TheVariants.{StepAhead, BelowLow, ConflictAtManager}
use Rattle.model.specs.declared.call.Answer.{Answer}
use Rattle.model.specs.declared.call.Answer.TheVariants.{Denied, Number}
use Rattle.model.specs.Maps.{enter}
use Rattle.model.specs.Numbers.{U}
use Rattle.model.specs.Transactions.{transaction}
use Rattle.model.specs.Managers.{seat, step_taken, first_conflict, ConflictTable, conflict_table, enter_conflicts, conflict_capacity}
use Rattle.model.specs.State.{State, with_rows, with_seat}
use Rattle.model.specs.Managing.{step_at}
use Rattle.model.specs.Validating.{validated, validate_seat}
use Rattle.manager.specs.Meaning.{Numbers, seated, seats, manager_at, with_low, advanced, stepping, step_of}
use Rattle.manager.specs.Validation.{Validating, validating, entered, unless_conflict, validate_of}
use Rattle.manager.specs.Conflicts.{Conflicts, with_entries}
use Rattle.manager.proofs.Seats.{enter_seats}
use Rattle.manager.proofs.Taking.{outcome, step_is, step_ok, step_err, at_advanced, Advanced}

-- denied: nothing changed
pub record Refused {V : Type 0} (s : State V) (w : Refusal) (p : Numbers) (t : List (ℕ × ℕ)) (v : Validating) (x : State V × Answer V) : Type 0 where
  pub after : v.after ≡ p
  pub left : v.left ≡ t
  pub exit : x ≡ (s, Denied w)

-- accepted: the keys are entered at the step, whose number is the answer
abbrev pub table_after : ℕ → ℕ → List ℕ → Numbers → List (ℕ × ℕ) → ConflictTable
table_after q n ks p t = enter_conflicts n ((manager_at q p).clock * U) ks (conflict_table (manager_at q p).low t)

pub record Accepted {V : Type 0} (s : State V) (id q : ℕ) (ks : List ℕ) (k : ℕ) (c n : ℕ) (p : Numbers) (t : List (ℕ × ℕ)) (v : Validating) (x : State V × Answer V) : Type 0 where
  pub number : c ≡ (manager_at q p).clock * U
  pub cell : ℕ
  pub end : ℕ
  pub after : v.after ≡ with_low q (table_after q n ks p t).low (advanced q cell end p)
  pub left : v.left ≡ (table_after q n ks p t).conflicts
  pub exit : x ≡ (with_rows (enter id (transaction (Validated ((manager_at q p).clock * U)) ks k) s.rows) (with_seat q (seat ((manager_at q p).clock + 1) end (table_after q n ks p t).low (table_after q n ks p t).conflicts) cell s), Number ((manager_at q p).clock * U))

module _ {V : Type 0} (s : State V) (id q : ℕ) (ks : List ℕ) (k : ℕ) (p : Numbers) (t : List (ℕ × ℕ)) (n : ℕ) (cells : s.cell ≡ p.cell) (spans : s.opening.span ≡ p.span) (places : conflict_capacity q s.opening ≡ n) where
  says : (w v : Refusal) → ◌≡◌ {A = Result ℕ Refusal} (Err v) (Err w) → ◌≡◌ {A = State V × Answer V} (s, Denied v) (s, Denied w)
  says w v e = let z : v ≡ w = cc in ap (λ r. (s, Denied r)) z

  steps : step_at q s (seated (manager_at q p) t) ≡ outcome q t (step_of q p)
  steps = rw (cells, spans) (step_is q p t)

  -- the step was denied
  late_refused : (w v : Refusal) → stepping (Err v) (step_of q p).after ≡ step_of q p → ◌≡◌ {A = Result ℕ Refusal} (Err v) (Err w) →
      Refused s w p t (entered q n ks (manager_at q p).low t (step_of q p).after (Err v)) (validated id q ks k ((manager_at q p).clock * U) (step_at q s (seated (manager_at q p) t)) s)
  late_refused w v e z =
      record {
        after = step_err q p v (step_of q p).after e;
        left = refl;
        exit = ap (λ o. validated id q ks k ((manager_at q p).clock * U) o s) (steps ∙ ap (outcome q t) (sym e)) ∙ says w v z;
      }

  -- the step was taken
  late_accepted : (c : ℕ) → stepping (Ok c) (step_of q p).after ≡ step_of q p →
      Accepted s id q ks k c n p t (entered q n ks (manager_at q p).low t (step_of q p).after (Ok c)) (validated id q ks k ((manager_at q p).clock * U) (step_at q s (seated (manager_at q p) t)) s)
  late_accepted c e =
      let a : Advanced q p c (step_of q p).after = step_ok q p c (step_of q p).after e in
      let cell = (step_of q p).after.cell in
      let u : seated (manager_at q (step_of q p).after) t ≡ seat ((manager_at q p).clock + 1) a.e (manager_at q p).low t = ap (λ x. seated (manager_at q x) t) a.is ∙ ap (λ m. seated m t) (at_advanced q cell a.e p) in
      let o : step_at q s (seated (manager_at q p) t) ≡ step_taken cell (seat ((manager_at q p).clock + 1) a.e (manager_at q p).low t) = steps ∙ (ap (outcome q t) (sym e) ∙ ap (step_taken cell) u) in
      record {
        number = a.number;
        cell = cell;
        end = a.e;
        after = ap (λ d. with_low q (enter_conflicts n d ks (conflict_table (manager_at q p).low t)).low (step_of q p).after) a.number ∙ ap (with_low q (table_after q n ks p t).low) a.is;
        left = ap (λ d. (enter_conflicts n d ks (conflict_table (manager_at q p).low t)).conflicts) a.number;
        exit = ap (λ r. validated id q ks k ((manager_at q p).clock * U) r s) o
            ∙ ap (λ z. (with_rows (enter id (transaction (Validated ((manager_at q p).clock * U)) ks k) s.rows) (with_seat q (seat ((manager_at q p).clock + 1) a.e (enter_conflicts z ((manager_at q p).clock * U) ks (conflict_table (manager_at q p).low t)).low (enter_conflicts z ((manager_at q p).clock * U) ks (conflict_table (manager_at q p).low t)).conflicts) cell s), Number ((manager_at q p).clock * U))) places;
      }

  -- the ways through, by their tests
  abbrev ways : Bool → Bool → Option ℕ → Validating
  ways a b o = cond a (validating (Err (StepAhead id)) p t) (cond b (validating (Err (BelowLow (manager_at q p).low)) p t) (unless_conflict q n ks p t o))

  abbrev run : Bool → Bool → Option ℕ → State V × Answer V
  run a b o = validate_seat id q ks k s (seated (manager_at q p) t) a b o

  go_refused : (w : Refusal) (a b : Bool) (o : Option ℕ) → (ways a b o).answer ≡ Err w → Refused s w p t (ways a b o) (run a b o)
  unfolding validate_seat
  go_refused w true b o e = record { after = refl; left = refl; exit = says w (StepAhead id) e }
  go_refused w false true o e = record { after = refl; left = refl; exit = says w (BelowLow (manager_at q p).low) e }
  go_refused w false false (Some j) e = record { after = refl; left = refl; exit = says w (ConflictAtManager j) e }
  go_refused w false false None e = by (step_of q p).answer refl e
    where
      by : (r : Result ℕ Refusal) → r ≡ (step_of q p).answer → (entered q n ks (manager_at q p).low t (step_of q p).after r).answer ≡ Err w →
          Refused s w p t (entered q n ks (manager_at q p).low t (step_of q p).after (step_of q p).answer) (validated id q ks k ((manager_at q p).clock * U) (step_at q s (seated (manager_at q p) t)) s)
      by (Ok c) h e = absurd (let z : ◌≡◌ {A = ℕ} 0 1 = cc in omega arith)
      by (Err v) h e = rw (← h) (late_refused w v (ap (λ r. stepping r (step_of q p).after) h) e)

  go_accepted : (c : ℕ) (a b : Bool) (o : Option ℕ) → (ways a b o).answer ≡ Ok c → Accepted s id q ks k c n p t (ways a b o) (run a b o)
  unfolding validate_seat
  go_accepted c true b o e = absurd (let z : ◌≡◌ {A = ℕ} 0 1 = cc in omega arith)
  go_accepted c false true o e = absurd (let z : ◌≡◌ {A = ℕ} 0 1 = cc in omega arith)
  go_accepted c false false (Some j) e = absurd (let z : ◌≡◌ {A = ℕ} 0 1 = cc in omega arith)
  go_accepted c false false None e = by (step_of q p).answer refl e
    where
      by : (r : Result ℕ Refusal) → r ≡ (step_of q p).answer → (entered q n ks (manager_at q p).low t (step_of q p).after r).answer ≡ Ok c →
          Accepted s id q ks k c n p t (entered q n ks (manager_at q p).low t (step_of q p).after (step_of q p).answer) (validated id q ks k ((manager_at q p).clock * U) (step_at q s (seated (manager_at q p) t)) s)
      by (Ok d) h e = let z : d ≡ c = cc in rw (← h, ← z) (late_accepted d (ap (λ r. stepping r (step_of q p).after) h))
      by (Err v) h e = absurd (let z : ◌≡◌ {A = ℕ} 0 1 = cc in omega arith)

  abbrev part : State V × Answer V
  part = run (leb (manager_at q p).clock (id / U)) (ltb id (manager_at q p).low) (first_conflict id t ks)

  module _ (nz : n ≡ 0 → ⊥) where
    open_ways : validate_of q n id ks p t ≡ ways (leb (manager_at q p).clock (id / U)) (ltb id (manager_at q p).low) (first_conflict id t ks)
    open_ways = rw (ne_eqb n 0 nz) refl

    pub refused : (w : Refusal) → (validate_of q n id ks p t).answer ≡ Err w → Refused s w p t (validate_of q n id ks p t) part
    refused w e = rw open_ways (go_refused w _ _ _ (sym (ap (λ (v : Validating). v.answer) open_ways) ∙ e))

    pub accepted : (c : ℕ) → (validate_of q n id ks p t).answer ≡ Ok c → Accepted s id q ks k c n p t (validate_of q n id ks p t) part
    accepted c e = rw open_ways (go_accepted c _ _ _ (sym (ap (λ (v : Validating). v.answer) open_ways) ∙ e))

-- the seats after an accepted validation
pub seats_after : (q cell end low : ℕ) (p p' : Numbers) (c : Conflicts) (x : List (ℕ × ℕ)) → q ≤ 1 → p' ≡ with_low q low (advanced q cell end p) →
    seats p' (with_entries q x c) ≡ enter q (seat ((manager_at q p).clock + 1) end low x) (seats p c)
seats_after q cell end low p p' c x l m = enter_seats q p c l (record { clock = (manager_at q p).clock + 1; end = end; low = low }) x p' (grind (arith, nat_tests)) (grind (arith, nat_tests))
