-- What the two managers mean: the seats of the reference database, and what taking over and taking a step leave.
use Rattle.std.specs.Prelude.{ℕ, ◌+◌, ◌*◌, cond, ◌&&◌, List, [], ◌∷◌, ◌++◌, Some, None, Ok, Err, Option, Result, unwrap_or, slice_index_or, ◌==◌, nat_lt}
use Rattle.model.specs.declared.refusal.Refusal.{Refusal}
use Rattle.model.specs.declared.refusal.Refusal.TheVariants.{OutsideLimits, SpanLost, StepsSpent}
use Rattle.model.specs.Numbers.{U, last_step, from_1_to}
use Rattle.model.specs.Managers.{Seat, seat}
use Rattle.manager.specs.Conflicts.{Conflicts}
use Rattle.manager.specs.declared.managers.Steps.{Steps}
use Rattle.manager.specs.declared.managers.Manager.{Manager}
use Rattle.manager.specs.declared.managers.Managers.{Managers}

-- the managers' numbers, without the facts that hold of them
pub record Numbers : Type 0 where
  pub cell : ℕ
  pub span : ℕ
  pub seat0 : Manager
  pub seat1 : Manager
  pub charge : Option ℕ

-- a seat that was never taken over
abbrev pub vacant : Manager
vacant = record { steps = None; low = 0 }

abbrev pub numbers : Managers → Numbers
numbers m = record { cell = m.cell; span = m.span; seat0 = slice_index_or m.seats 0 vacant; seat1 = slice_index_or m.seats 1 vacant; charge = m.charge }

-- what a manager counts by: its next step, the end of its span, and its low
pub record Counts : Type 0 where
  pub clock : ℕ
  pub end : ℕ
  pub low : ℕ

-- a vacant seat counts from 0
abbrev pub no_steps : Steps
no_steps = record { clock = 0; end = 0 }

abbrev pub counting : Steps → ℕ → Counts
counting s l = record { clock = s.clock; end = s.end; low = l }

abbrev pub counts : Manager → Counts
counts m = counting (unwrap_or m.steps no_steps) m.low

-- the manager that counts by u, at a seat that was taken over
abbrev pub manager_by : Counts → Manager
manager_by u = record { steps = Some (record { clock = u.clock; end = u.end }); low = u.low }

-- a manager with its conflict entries is a seat
abbrev pub seated : Counts → List (ℕ × ℕ) → Seat
seated u t = seat u.clock u.end u.low t

-- the seat q, if it was taken over
abbrev pub taken : ℕ → Option Steps → ℕ → List (ℕ × ℕ) → List (ℕ × Seat)
taken q None l t = []
taken q (Some s) l t = (q, seated (counting s l) t) ∷ []

-- the seats, given the conflict tables
abbrev pub seats : Numbers → Conflicts → List (ℕ × Seat)
seats p c = taken 0 p.seat0.steps p.seat0.low c.entries0 ++ taken 1 p.seat1.steps p.seat1.low c.entries1

-- the place of a seat, 0 or else 1
abbrev pub seat_index : ℕ → ℕ
seat_index q = cond (q == 0) 0 1

-- what stands at a seat
abbrev pub standing_at : ℕ → Numbers → Manager
standing_at q p = cond (q == 0) p.seat0 p.seat1

-- the steps at a seat, if it was taken over
abbrev pub seat_at : ℕ → Numbers → Option Steps
seat_at q p = (standing_at q p).steps

-- what the manager at a seat counts by
abbrev pub manager_at : ℕ → Numbers → Counts
manager_at q p = counts (standing_at q p)

-- two vacant seats
abbrev pub new_numbers : ℕ → ℕ → Option Numbers
new_numbers first span = cond (from_1_to last_step first && from_1_to 4096 span) (Some (record { cell = first; span = span; seat0 = vacant; seat1 = vacant; charge = None })) None

abbrev pub made : Option Managers → Option Numbers
made None = None
made (Some m) = Some (numbers m)

-- the clock of the seat in charge
abbrev pub clock_taken : Option Steps → ℕ
clock_taken None = 0
clock_taken (Some s) = s.clock

abbrev pub clock_at : Option ℕ → Option Steps → Option Steps → ℕ
clock_at None m n = 0
clock_at (Some q) m n = cond (q == 0) (clock_taken m) (cond (q == 1) (clock_taken n) 0)

abbrev pub clock_in_charge : Numbers → ℕ
clock_in_charge p = clock_at p.charge p.seat0.steps p.seat1.steps

-- m stands at the seat q in place of what stood there
abbrev pub with_seat : ℕ → Manager → Numbers → Numbers
with_seat q m p = record { cell = p.cell; span = p.span; seat0 = cond (q == 0) m p.seat0; seat1 = cond (q == 0) p.seat1 m; charge = p.charge }

-- the manager at the seat q has the low l
abbrev pub with_low : ℕ → ℕ → Numbers → Numbers
with_low q l p = with_seat q (record { steps = seat_at q p; low = l }) p

-- the clock rose by one, and the end is at e
abbrev pub ticked : ℕ → Counts → Counts
ticked e u = record { clock = u.clock + 1; end = e; low = u.low }

-- the manager at the seat q has ticked, its end is at e, and the cell at c
abbrev pub advanced : ℕ → ℕ → ℕ → Numbers → Numbers
advanced q c e p =
    let m : Manager = manager_by (ticked e (manager_at q p)) in
    record { cell = c; span = p.span; seat0 = cond (q == 0) m p.seat0; seat1 = cond (q == 0) p.seat1 m; charge = p.charge }

-- where the span after the next one begins, for the seat q
abbrev pub next_cell : ℕ → Numbers → Result ℕ Refusal
next_cell q p = cond (nat_lt last_step (p.cell + p.span)) (Err (StepsSpent q)) (Ok (p.cell + p.span))

-- an answer, and the numbers after it
pub record Stepping : Type 0 where
  pub answer : Result ℕ Refusal
  pub after : Numbers

abbrev pub stepping : Result ℕ Refusal → Numbers → Stepping
stepping r p = record { answer = r; after = p }

-- taking a step at the seat q
abbrev pub step_of : ℕ → Numbers → Stepping
step_of q p =
    let m : Counts = manager_at q p in
    cond (m.clock == m.end)
    (cond (p.cell == m.end)
    (cond (nat_lt last_step (p.cell + p.span))
    (stepping (Err (StepsSpent q)) p)
    (stepping (Ok (m.clock * U)) (advanced q (p.cell + p.span) (m.end + p.span) p)))
    (stepping (Err (SpanLost q)) p))
    (stepping (Ok (m.clock * U)) (advanced q p.cell m.end p))

-- taking over the seat q
abbrev pub new_manager : Numbers → Counts
new_manager p = record { clock = p.cell; end = p.cell + p.span; low = p.cell * U }

abbrev pub taken_by : ℕ → Numbers → Numbers
taken_by q p =
    let m : Manager = manager_by (new_manager p) in
    record { cell = p.cell + p.span; span = p.span; seat0 = cond (q == 0) m p.seat0; seat1 = cond (q == 0) p.seat1 m; charge = Some q }

abbrev pub takeover_of : ℕ → Numbers → Stepping
takeover_of q p =
    cond (nat_lt 1 q) (stepping (Err OutsideLimits) p)
    (cond (nat_lt last_step (p.cell + p.span)) (stepping (Err (StepsSpent q)) p) (stepping (Ok (p.cell * U)) (taken_by q p)))
