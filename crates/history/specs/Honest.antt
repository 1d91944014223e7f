-- A long past that the reference database does answer, with every kind of call accepted, both kinds of commit, two managers and two denied calls.
use Rattle.std.specs.Prelude.{◌≡◌, ℕ, ◌*◌, List, [], ◌∷◌, length, Some, Ok}
use Rattle.model.specs.declared.refusal.Refusal.TheVariants.{NoRow, WrongPhase}
use Rattle.model.specs.declared.call.Call.{Call}
use Rattle.model.specs.declared.call.Call.TheVariants.{Takeover, Begin, Write, Read, Validate, Settle, Stamp, Abandon, Bury, Raise, Sweep, FastRead, FastChange, FastWrite}
use Rattle.model.specs.declared.call.Answer.TheVariants.{Denied, Number, Value, Newest}
use Rattle.model.specs.Numbers.{U}
use Rattle.model.specs.State.{State, fresh, opened}
use Rattle.model.specs.After.{after}
use Rattle.model.specs.Runs.{largest}
use Rattle.history.specs.Past.{Past, answered, commits_of, reads_of}
use Rattle.history.specs.Law.{Lawful, past_of}

abbrev pub honest : Past ℕ
honest =
    answered (Takeover 0) (Number (1 * U))
    ∷ answered (FastWrite 7 10) (Number 1)
    ∷ answered (Begin 0) (Number (1 * U))
    ∷ answered (Begin 0) (Number (2 * U))
    ∷ answered (Read (1 * U) 7) (Value (Some 10))
    ∷ answered (Write (1 * U) 7 11) (Number 1)
    ∷ answered (Read (1 * U) 7) (Value (Some 11))
    ∷ answered (Write (2 * U) 8 20) (Number 1)
    ∷ answered (Validate (1 * U) 0) (Number (3 * U))
    ∷ answered (Settle (1 * U)) (Number (3 * U))
    -- the commit is numbered above this reader's start
    ∷ answered (Read (2 * U) 7) (Value (Some 10))
    ∷ answered (Stamp (1 * U)) (Number 0)
    ∷ answered (Validate (2 * U) 0) (Number (4 * U))
    ∷ answered (Settle (2 * U)) (Number (4 * U))
    ∷ answered (FastRead 7) (Newest (3 * U) (Some 11))
    ∷ answered (FastChange (3 * U) 7 12) (Number 3145729)
    ∷ answered (Takeover 1) (Number (5 * U))
    ∷ answered (Begin 1) (Number (5 * U))
    ∷ answered (Read (5 * U) 8) (Value (Some 20))
    -- a settled transaction that was not stamped
    ∷ answered (Bury (2 * U)) (Number 1)
    ∷ answered (Write (5 * U) 9 30) (Number 1)
    ∷ answered (Abandon (5 * U)) (Number 1)
    ∷ answered (Begin 1) (Number (6 * U))
    ∷ answered (Raise (6 * U)) (Number (6 * U))
    -- of the numbers 1, 3U and 3U + 1 the greatest stays
    ∷ answered (Sweep 7) (Number 2)
    ∷ answered (Read (6 * U) 7) (Value (Some 12))
    ∷ answered (FastWrite 9 31) (Number 1)
    ∷ answered (Read (6 * U) 9) (Value (Some 31))
    ∷ answered (Read (5 * U) 9) (Denied (NoRow (5 * U)))
    ∷ answered (Settle (6 * U)) (Denied (WrongPhase (6 * U)))
    ∷ []

-- the calls of a past
abbrev pub calls_of : Past ℕ → List (Call ℕ)
calls_of [] = []
calls_of (answered c a ∷ p) = c ∷ calls_of p

abbrev pub largest_database : State ℕ
largest_database = fresh largest

-- it is what a database that opens answers, it obeys the whole law, and it has commits and reads
pub record Honest : Type 0 where
  pub opens : opened largest 0 0 ≡ Ok largest_database
  pub is_past : past_of largest_database (calls_of honest) ≡ honest
  pub obeys : Lawful honest (after largest_database (calls_of honest))
  pub commits : length (commits_of honest) ≡ 5
  pub reads : length (reads_of honest) ≡ 6
