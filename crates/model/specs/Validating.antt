-- Validate: a manager sees that nothing newer was committed at the transaction's keys, and gives it a commit number.
use Rattle.std.specs.Prelude.{ℕ, ◌*◌, ◌/◌, Bool, true, false, ◌||◌, List, Some, None, Option, ◌==◌, nat_le, nat_lt}
use Rattle.model.specs.declared.words.Phase.{Phase}
use Rattle.model.specs.declared.words.Phase.TheVariants.{Open, Validated, Settled}
use Rattle.model.specs.declared.refusal.Refusal.TheVariants.{OutsideLimits, SeatVacant, NoRow, WrongPhase, Fenced, StepAhead, BelowLow, ConflictAtManager}
use Rattle.model.specs.declared.call.Answer.{Answer}
use Rattle.model.specs.declared.call.Answer.TheVariants.{Number}
use Rattle.model.specs.Numbers.{U}
use Rattle.model.specs.Maps.{look_up, enter}
use Rattle.model.specs.Transactions.{Transaction, transaction}
use Rattle.model.specs.Managers.{Seat, seat, StepOutcome, step_denied, step_taken, first_conflict, ConflictTable, conflict_table, enter_conflicts, conflict_capacity}
use Rattle.model.specs.State.{State, deny, with_rows, with_seat}
use Rattle.model.specs.Managing.{step_at}

module _ {V : Type 0} where
  -- the step c was taken, and the seat is now t: every key is entered at c in the conflict table
  abbrev pub validated : ℕ → ℕ → List ℕ → ℕ → ℕ → StepOutcome → State V → State V × Answer V
  validated id q ks n c (step_denied w) s = deny s w
  validated id q ks n c (step_taken e t) s =
      let m : ConflictTable = enter_conflicts (conflict_capacity q s.opening) c ks (conflict_table t.low t.conflicts) in
      (with_rows (enter id (transaction (Validated c) ks n) s.rows) (with_seat q (seat t.clock t.end m.low m.conflicts) e s), Number c)

  -- the tests: the id's step is at or above the clock; the id is below low; a key in conflict
  unfoldable pub validate_seat : ℕ → ℕ → List ℕ → ℕ → State V → Seat → Bool → Bool → Option ℕ → State V × Answer V
  validate_seat id q ks n s t true b o = deny s (StepAhead id)
  validate_seat id q ks n s t false true o = deny s (BelowLow t.low)
  validate_seat id q ks n s t false false (Some k) = deny s (ConflictAtManager k)
  validate_seat id q ks n s t false false None = validated id q ks n (t.clock * U) (step_at q s t) s

  -- the tests: the id is below the fence; the seat is vacant
  unfoldable pub validate_if : ℕ → ℕ → List ℕ → ℕ → State V → Bool → Option Seat → State V × Answer V
  unfolding validate_seat
  validate_if id q ks n s true o = deny s (Fenced id)
  validate_if id q ks n s false None = deny s (SeatVacant q)
  validate_if id q ks n s false (Some t) = validate_seat id q ks n s t (nat_le t.clock (id / U)) (nat_lt id t.low) (first_conflict id t.conflicts ks)

  -- by phase
  unfoldable pub validate_in : ℕ → ℕ → State V → Phase → List ℕ → ℕ → State V × Answer V
  unfolding validate_if
  validate_in id q s Open ks n = validate_if id q ks n s (nat_lt id s.fence) (look_up s.seats q)
  validate_in id q s (Validated c) ks n = deny s (WrongPhase id)
  validate_in id q s (Settled c) ks n = deny s (WrongPhase id)

  -- the seat is above 1, or its conflict table has no place, with which no database is opened
  abbrev pub seat_outside : ℕ → State V → Bool
  seat_outside q s = conflict_capacity q s.opening == 0 || nat_lt 1 q

  -- the test: the seat is outside the limits; then by row
  unfoldable pub validate_at : ℕ → ℕ → State V → Bool → Option Transaction → State V × Answer V
  unfolding validate_in
  validate_at id q s true o = deny s OutsideLimits
  validate_at id q s false None = deny s (NoRow id)
  validate_at id q s false (Some r) = validate_in id q s r.phase r.keys r.stamped
