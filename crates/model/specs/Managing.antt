-- Takeover, begin and raise: what moves managers, starts transactions and lifts floor and fence.
use Rattle.std.specs.Prelude.{ℕ, ◌+◌, ◌*◌, max, Bool, true, false, List, [], length, Some, None, Option, ◌==◌, nat_lt}
use Rattle.model.specs.declared.words.Phase.TheVariants.{Open}
use Rattle.model.specs.declared.refusal.Refusal.TheVariants.{OutsideLimits, SeatVacant, RowsFull, StepsSpent, AboveClock}
use Rattle.model.specs.declared.call.Answer.{Answer}
use Rattle.model.specs.declared.call.Answer.TheVariants.{Number}
use Rattle.model.specs.Numbers.{U, last_step}
use Rattle.model.specs.Maps.{look_up, enter}
use Rattle.model.specs.Transactions.{transaction}
use Rattle.model.specs.Managers.{Seat, StepOutcome, step_denied, step_taken, take_step}
use Rattle.model.specs.State.{State, deny, with_rows, with_seat, with_floor, taken_over}

-- the clock of the seat in charge, or 0 where none is
abbrev pub clock_of : Option Seat → ℕ
clock_of None = 0
clock_of (Some t) = t.clock

abbrev pub charge_clock : Option ℕ → List (ℕ × Seat) → ℕ
charge_clock None l = 0
charge_clock (Some q) l = clock_of (look_up l q)

module _ {V : Type 0} where
  -- taking a step at the seat q, which is t
  abbrev pub step_at : ℕ → State V → Seat → StepOutcome
  step_at q s t = take_step q s.cell s.opening.span t (t.clock == t.end) (s.cell == t.end) (nat_lt last_step (s.cell + s.opening.span))

  -- takeover; the tests: the seat is above 1; there are no more steps
  unfoldable pub takeover_if : ℕ → State V → Bool → Bool → State V × Answer V
  takeover_if q s true b = deny s OutsideLimits
  takeover_if q s false true = deny s (StepsSpent q)
  takeover_if q s false false = (taken_over q s, Number (s.cell * U))

  -- begin, with its step
  abbrev pub begun : ℕ → Seat → StepOutcome → State V → State V × Answer V
  begun q t (step_denied w) s = deny s w
  begun q t (step_taken c u) s = (with_rows (enter (t.clock * U) (transaction Open [] 0) s.rows) (with_seat q u c s), Number (t.clock * U))

  -- begin; the tests: the seat is above 1; the seat is vacant; all rows are used
  unfoldable pub begin_if : ℕ → State V → Bool → Option Seat → Bool → State V × Answer V
  begin_if q s true o b = deny s OutsideLimits
  begin_if q s false None b = deny s (SeatVacant q)
  begin_if q s false (Some t) true = deny s (RowsFull (length s.rows))
  begin_if q s false (Some t) false = begun q t (step_at q s t) s

  -- raise; the test: h is above the clock of the seat in charge. A floor lifts the fence with it, so that nothing commits where nothing is read
  unfoldable pub raise_if : ℕ → State V → Bool → State V × Answer V
  raise_if h s true = deny s (AboveClock h)
  raise_if h s false = (with_floor h s, Number (max s.floor h))
