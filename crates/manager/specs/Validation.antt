-- A manager's part of a validation: the tests, the step, and the keys entered at its number.
use Rattle.std.specs.Prelude.{ℕ, ◌/◌, cond, List, Some, None, Ok, Err, Option, Result, ◌==◌, nat_le, nat_lt}
use Rattle.model.specs.declared.refusal.Refusal.{Refusal}
use Rattle.model.specs.declared.refusal.Refusal.TheVariants.{OutsideLimits, StepAhead, BelowLow, ConflictAtManager}
use Rattle.model.specs.Numbers.{U}
use Rattle.model.specs.Managers.{first_conflict, ConflictTable, conflict_table, enter_conflicts}
use Rattle.manager.specs.Conflicts.{Conflicts, entries_at, places_at, with_entries}
use Rattle.manager.specs.Meaning.{Numbers, Counts, manager_at, with_low, Stepping, step_of}

-- an answer, the managers' numbers after it, and the conflict entries of the seat
pub record Validating : Type 0 where
  pub answer : Result ℕ Refusal
  pub after : Numbers
  pub left : List (ℕ × ℕ)

abbrev pub validating : Result ℕ Refusal → Numbers → List (ℕ × ℕ) → Validating
validating r p t = record { answer = r; after = p; left = t }

-- after the step, which left the numbers p: the keys are entered at it in a table of n places, which had the entries t and goes with low
abbrev pub entered : ℕ → ℕ → List ℕ → ℕ → List (ℕ × ℕ) → Numbers → Result ℕ Refusal → Validating
entered q n ks low t p (Err w) = validating (Err w) p t
entered q n ks low t p (Ok c) =
    let m : ConflictTable = enter_conflicts n c ks (conflict_table low t) in
    validating (Ok c) (with_low q m.low p) m.conflicts

-- given the first key in conflict
abbrev pub unless_conflict : ℕ → ℕ → List ℕ → Numbers → List (ℕ × ℕ) → Option ℕ → Validating
unless_conflict q n ks p t (Some k) = validating (Err (ConflictAtManager k)) p t
unless_conflict q n ks p t None =
    let o : Stepping = step_of q p in
    entered q n ks (manager_at q p).low t o.after o.answer

-- the tests: the table has no place; the id's step is at or above the clock; the id is below low; a key in conflict
abbrev pub validate_of : ℕ → ℕ → ℕ → List ℕ → Numbers → List (ℕ × ℕ) → Validating
validate_of q n id ks p t =
    let m : Counts = manager_at q p in
    cond (n == 0) (validating (Err OutsideLimits) p t)
    (cond (nat_le m.clock (id / U)) (validating (Err (StepAhead id)) p t)
    (cond (nat_lt id m.low) (validating (Err (BelowLow m.low)) p t)
    (unless_conflict q n ks p t (first_conflict id t ks))))

-- with the conflict tables of both seats
pub record Both : Type 0 where
  pub answer : Result ℕ Refusal
  pub after : Numbers
  pub tables : Conflicts

abbrev pub both : Result ℕ Refusal → Numbers → Conflicts → Both
both r p c = record { answer = r; after = p; tables = c }

-- only that of the seat q is looked at and changed
abbrev pub validate_both : ℕ → ℕ → List ℕ → Numbers → Conflicts → Both
validate_both q id ks p c =
    let v : Validating = validate_of q (places_at q c) id ks p (entries_at q c) in
    both v.answer v.after (with_entries q v.left c)
