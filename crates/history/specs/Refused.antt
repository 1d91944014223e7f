-- Short pasts that look like those of a snapshot database, each the work of one fault. The law refuses every one.
use Rattle.std.specs.Prelude.{ℕ, ◌*◌, [], ◌∷◌, Some, None}
use Rattle.model.specs.declared.call.Call.TheVariants.{Takeover, Begin, Write, Read, Validate, Settle, Stamp, Raise, Sweep, FastWrite}
use Rattle.model.specs.declared.call.Answer.TheVariants.{Number, Value}
use Rattle.model.specs.Numbers.{U}
use Rattle.history.specs.Past.{Past, answered}
use Rattle.history.specs.Law.{Law}

-- at or above the fence a reader passes a pending record without aborting it; its writer then settles below the reader's start
abbrev pub pending_passed : Past ℕ
pending_passed =
    answered (Takeover 0) (Number (1 * U))
    ∷ answered (Begin 0) (Number (1 * U))
    ∷ answered (Write (1 * U) 7 50) (Number 1)
    ∷ answered (Validate (1 * U) 0) (Number (2 * U))
    ∷ answered (Begin 0) (Number (3 * U))
    ∷ answered (Read (3 * U) 7) (Value None)
    ∷ answered (Settle (1 * U)) (Number (2 * U))
    ∷ []

-- the commit entry goes before the last record is stamped: the second key is still pending, and a reader passes it
abbrev pub entry_gone_early : Past ℕ
entry_gone_early =
    answered (Takeover 0) (Number (1 * U))
    ∷ answered (Begin 0) (Number (1 * U))
    ∷ answered (Write (1 * U) 7 50) (Number 1)
    ∷ answered (Write (1 * U) 8 51) (Number 2)
    ∷ answered (Validate (1 * U) 0) (Number (2 * U))
    ∷ answered (Settle (1 * U)) (Number (2 * U))
    ∷ answered (Stamp (1 * U)) (Number 1)
    ∷ answered (Begin 0) (Number (3 * U))
    ∷ answered (Read (3 * U) 8) (Value None)
    ∷ []

-- stamping leaves the class number low: a fast write that came later lands under the commit
abbrev pub landed_under_commit : Past ℕ
landed_under_commit =
    answered (Takeover 0) (Number (1 * U))
    ∷ answered (Begin 0) (Number (1 * U))
    ∷ answered (Read (1 * U) 7) (Value None)
    ∷ answered (Write (1 * U) 7 50) (Number 1)
    ∷ answered (Validate (1 * U) 0) (Number (2 * U))
    ∷ answered (Settle (1 * U)) (Number (2 * U))
    ∷ answered (Stamp (1 * U)) (Number 0)
    ∷ answered (FastWrite 7 60) (Number 1048577)
    ∷ []

-- a sweep drops the last version under the floor, which a reader at the floor needs
abbrev pub last_version_swept : Past ℕ
last_version_swept =
    answered (Takeover 0) (Number (1 * U))
    ∷ answered (FastWrite 7 50) (Number 1)
    ∷ answered (Begin 0) (Number (1 * U))
    ∷ answered (Raise (1 * U)) (Number (1 * U))
    ∷ answered (Sweep 7) (Number 1)
    ∷ answered (Read (1 * U) 7) (Value None)
    ∷ []

-- two transactions write one key and both commit, though the later one began before the other's number
abbrev pub lost_update : Past ℕ
lost_update =
    answered (Takeover 0) (Number (1 * U))
    ∷ answered (Begin 0) (Number (1 * U))
    ∷ answered (Begin 0) (Number (2 * U))
    ∷ answered (Write (1 * U) 7 1) (Number 1)
    ∷ answered (Write (2 * U) 7 2) (Number 1)
    ∷ answered (Validate (1 * U) 0) (Number (3 * U))
    ∷ answered (Validate (2 * U) 0) (Number (4 * U))
    ∷ answered (Settle (1 * U)) (Number (3 * U))
    ∷ answered (Settle (2 * U)) (Number (4 * U))
    ∷ []

-- a reader is shown a commit that is numbered at its start
abbrev pub shown_at_start : Past ℕ
shown_at_start =
    answered (Takeover 0) (Number (1 * U))
    ∷ answered (Begin 0) (Number (1 * U))
    ∷ answered (Write (1 * U) 7 50) (Number 1)
    ∷ answered (Validate (1 * U) 0) (Number (2 * U))
    ∷ answered (Settle (1 * U)) (Number (2 * U))
    ∷ answered (Begin 0) (Number (2 * U))
    ∷ answered (Read (2 * U) 7) (Value (Some 50))
    ∷ []

-- a reader does not find its own write
abbrev pub own_write_missed : Past ℕ
own_write_missed =
    answered (Takeover 0) (Number (1 * U))
    ∷ answered (Begin 0) (Number (1 * U))
    ∷ answered (Write (1 * U) 7 50) (Number 1)
    ∷ answered (Read (1 * U) 7) (Value None)
    ∷ []

-- a read leaves the class number low: a fast write that came later lands below the reader's start
abbrev pub landed_under_reader : Past ℕ
landed_under_reader =
    answered (Takeover 0) (Number (1 * U))
    ∷ answered (Begin 0) (Number (1 * U))
    ∷ answered (Read (1 * U) 7) (Value None)
    ∷ answered (FastWrite 7 60) (Number 1)
    ∷ []

pub record Refused : Type 0 where
  pub passed : Law pending_passed → ⊥
  pub gone_early : Law entry_gone_early → ⊥
  pub under_commit : Law landed_under_commit → ⊥
  pub swept : Law last_version_swept → ⊥
  pub lost : Law lost_update → ⊥
  pub at_start : Law shown_at_start → ⊥
  pub own_missed : Law own_write_missed → ⊥
  pub under_reader : Law landed_under_reader → ⊥
