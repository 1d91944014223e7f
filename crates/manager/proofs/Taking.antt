-- A manager's step is a step of the reference database.
use Rattle.std.proofs.Common.{◌≡◌, ℕ, ◌+◌, ◌*◌, ◌≤◌, eqb, ltb, List, [], Ok, Err, ap, ◌∙◌, sym, arith}
use Rattle.std.proofs.lemmas.Bool.Decides.{nat_tests}
use Rattle.model.specs.declared.refusal.Refusal.{Refusal}
use Rattle.model.specs.Maps.{enter}
use Rattle.model.specs.Numbers.{U, last_step}
use Rattle.model.specs.Managers.{seat, StepOutcome, step_denied, step_taken, take_step}
use Rattle.manager.specs.Conflicts.{Conflicts, entries_at, with_entries}
use Rattle.manager.specs.Meaning.{Numbers, seated, seats, manager_at, new_manager, ticked, advanced, Stepping, stepping, step_of, taken_by}
use Rattle.manager.proofs.Seats.{enter_seats, same_entries}

-- a step of a manager that has the conflict entries t
abbrev pub outcome : ℕ → List (ℕ × ℕ) → Stepping → StepOutcome
outcome q t o = elim o.answer [ Ok n ↦ step_taken o.after.cell (seated (manager_at q o.after) t) | Err w ↦ step_denied w ]

pub at_advanced : (q c e : ℕ) (p : Numbers) → manager_at q (advanced q c e p) ≡ ticked e (manager_at q p)
at_advanced q c e p = grind (arith, nat_tests)

pub step_is : (q : ℕ) (p : Numbers) (t : List (ℕ × ℕ)) → let m = manager_at q p in
    take_step q p.cell p.span (seated m t) (eqb m.clock m.end) (eqb p.cell m.end) (ltb last_step (p.cell + p.span)) ≡ outcome q t (step_of q p)
unfolding take_step
step_is q p t = grind (arith, nat_tests, at_advanced)

-- a step was taken
pub record Advanced (q : ℕ) (p : Numbers) (n : ℕ) (p' : Numbers) : Type 0 where
  pub number : n ≡ (manager_at q p).clock * U
  pub e : ℕ
  pub is : p' ≡ advanced q p'.cell e p

pub step_ok : (q : ℕ) (p : Numbers) (n : ℕ) (p' : Numbers) → stepping (Ok n) p' ≡ step_of q p → Advanced q p n p'
step_ok q p n p' h = record { number = (grind (arith, nat_tests)); e = (manager_at q p').end; is = (grind (arith, nat_tests, at_advanced)) }

-- a step was denied: nothing changed
pub step_err : (q : ℕ) (p : Numbers) (w : Refusal) (p' : Numbers) → stepping (Err w) p' ≡ step_of q p → p' ≡ p
step_err q p w p' h = grind (arith, nat_tests)

-- the seats after a step
pub advanced_seats : (q d e : ℕ) (p p' : Numbers) (c : Conflicts) → q ≤ 1 → p' ≡ advanced q d e p → seats p' c ≡ enter q (seated (manager_at q p') (entries_at q c)) (seats p c)
advanced_seats q d e p p' c l m =
    ap (seats p') (sym (same_entries q c))
    ∙ (enter_seats q p c l (ticked e (manager_at q p)) (entries_at q c) p' (ap (λ (x : Numbers). x.seat0) m) (ap (λ (x : Numbers). x.seat1) m)
    ∙ ap (λ u. enter q (seated u (entries_at q c)) (seats p c)) (sym (ap (manager_at q) m ∙ at_advanced q d e p)))

-- the seats after a takeover, with the conflict entries of that seat gone
pub taken_seats : (q : ℕ) (p p' : Numbers) (c : Conflicts) → q ≤ 1 → p' ≡ taken_by q p → seats p' (with_entries q [] c) ≡ enter q (seat p.cell (p.cell + p.span) (p.cell * U) []) (seats p c)
taken_seats q p p' c l m = enter_seats q p c l (new_manager p) [] p' (ap (λ (x : Numbers). x.seat0) m) (ap (λ (x : Numbers). x.seat1) m)
