-- A manager at its seat: taking a step, the test for a conflict, and the conflict table, which forgets.
use Rattle.std.specs.Prelude.{ℕ, suc, ◌+◌, max, Bool, true, false, cond, not, ◌&&◌, List, [], ◌∷◌, length, Some, None, Option, ◌==◌, nat_le, nat_lt}
use Rattle.model.specs.declared.call.Opening.{Opening}
use Rattle.model.specs.declared.refusal.Refusal.{Refusal}
use Rattle.model.specs.declared.refusal.Refusal.TheVariants.{SpanLost, StepsSpent}
use Rattle.model.specs.Maps.{is_there, number_or_0, look_up, enter, remove}

-- the clock is the next step; the end is where the span ends; low is the least id that can still be validated here; and the conflict table has, of a key, the
-- last number validated
pub record Seat : Type 0 where
  pub clock : ℕ
  pub end : ℕ
  pub low : ℕ
  pub conflicts : List (ℕ × ℕ)

abbrev pub seat : ℕ → ℕ → ℕ → List (ℕ × ℕ) → Seat
seat c e l t = record { clock = c; end = e; low = l; conflicts = t }

-- taking a step: denied, or the new cell and the seat after it; the step taken is the clock that the seat had
pub data StepOutcome : Type 0 where
  step_denied : Refusal → StepOutcome
  step_taken : ℕ → Seat → StepOutcome

-- the seat t, whose clock rose, with its end at e
abbrev pub ticked : Seat → ℕ → Seat
ticked t e = seat (suc t.clock) e t.low t.conflicts

-- the tests: the span is used up; the cell is the seat's end (no other manager took steps since); there are no more steps. A new span begins where the old one
-- ended, so the clock never jumps.
unfoldable pub take_step : ℕ → ℕ → ℕ → Seat → Bool → Bool → Bool → StepOutcome
take_step q cell span t false b c = step_taken cell (ticked t t.end)
take_step q cell span t true false c = step_denied (SpanLost q)
take_step q cell span t true true true = step_denied (StepsSpent q)
take_step q cell span t true true false = step_taken (cell + span) (ticked t (t.end + span))

-- the entry of least number, and of least key among equals
abbrev pub lesser_of : ℕ × ℕ → Option (ℕ × ℕ) → Option (ℕ × ℕ)
lesser_of e None = Some e
lesser_of e (Some d) = cond (nat_le e.1 d.1) (Some e) (Some d)

unfoldable pub least_entry : List (ℕ × ℕ) → Option (ℕ × ℕ)
least_entry [] = None
least_entry (e ∷ l) = lesser_of e (least_entry l)

-- the first of the keys whose conflict entry is above id
unfoldable pub first_conflict : ℕ → List (ℕ × ℕ) → List ℕ → Option ℕ
first_conflict id t [] = None
first_conflict id t (k ∷ ks) = let r = first_conflict id t ks in cond (nat_lt id (number_or_0 (look_up t k))) (Some k) r

-- a conflict table with the low that goes with it: what the table has forgotten is at most low
pub record ConflictTable : Type 0 where
  pub low : ℕ
  pub conflicts : List (ℕ × ℕ)

abbrev pub conflict_table : ℕ → List (ℕ × ℕ) → ConflictTable
conflict_table l t = record { low = l; conflicts = t }

-- the entry at the key of e is discarded, if there is one, and low rises to at least its number
abbrev pub discard : Option (ℕ × ℕ) → ConflictTable → ConflictTable
discard None m = m
discard (Some e) m = conflict_table (max m.low (number_or_0 (look_up m.conflicts e.0))) (remove e.0 m.conflicts)

-- the key k is entered at c in a table of so many places: a full one first discards its least entry for a new key
unfoldable pub enter_conflict : ℕ → ℕ → ℕ → ConflictTable → ConflictTable
enter_conflict cap c k m =
    let n : ConflictTable = cond (not (is_there (look_up m.conflicts k)) && nat_le cap (length m.conflicts)) (discard (least_entry m.conflicts) m) m in
    conflict_table n.low (enter k c n.conflicts)

-- the keys are entered at c, the first key first; entries made on the way are not spared
unfoldable pub enter_conflicts : ℕ → ℕ → List ℕ → ConflictTable → ConflictTable
enter_conflicts cap c [] m = m
enter_conflicts cap c (k ∷ ks) m = enter_conflicts cap c ks (enter_conflict cap c k m)

-- the places of the conflict table of the seat q
abbrev pub conflict_capacity : ℕ → Opening → ℕ
conflict_capacity q z = cond (q == 0) z.conflicts0 z.conflicts1
