-- Ten worked runs, each with its calls and their answers: first step 1, span 4, the largest tables, and seat 0 takes over.
use Rattle.std.specs.Prelude.{◌≡◌, ℕ, ◌*◌, List, [], ◌∷◌, Some, None, Option}
use Rattle.model.specs.declared.words.Record.{Record}
use Rattle.model.specs.declared.refusal.Refusal.TheVariants.{SpanLost, Fenced, ConflictAtManager, ConflictAtEngine, KeysFull, EntryAborted, ClassSpent}
use Rattle.model.specs.declared.call.Opening.{Opening}
use Rattle.model.specs.declared.call.Call.{Call}
use Rattle.model.specs.declared.call.Call.TheVariants.{Takeover, Begin, Write, Read, Validate, Settle, Stamp, Raise, Sweep, FastRead, FastChange, FastWrite}
use Rattle.model.specs.declared.call.Answer.{Answer}
use Rattle.model.specs.declared.call.Answer.TheVariants.{Denied, Number, Value, Newest}
use Rattle.model.specs.Numbers.{U}
use Rattle.model.specs.Classes.{raise_class}
use Rattle.model.specs.Records.{record_of}
use Rattle.model.specs.State.{State, fresh, with_classes}
use Rattle.model.specs.Step.{step}

-- the answers to some calls and the records that they leave, the first call first
abbrev pub replayed : State ℕ → List (Call ℕ) → List (Answer ℕ) × List (Record ℕ)
replayed s [] = ([], s.records)
replayed s (c ∷ cs) =
    let p = step s c in
    let q = replayed p.0 cs in
    (p.1 ∷ q.0, q.1)

abbrev pub largest : Opening
largest = record { first = 1; span = 4; rows = 64; conflicts0 = 4096; conflicts1 = 4096; records = 4096; entries = 2000 }

abbrev pub start : State ℕ
start = (step (fresh largest) (Takeover 0)).0

-- the state `start` but for the class number of the key 7
abbrev pub with_class : ℕ → State ℕ
with_class n = with_classes (raise_class 7 n start.classes) start

-- a run: where it starts, its calls, their answers and, where it is told, the records left
pub record Run : Type 0 where
  pub from : State ℕ
  pub calls : List (Call ℕ)
  pub answers : List (Answer ℕ)
  pub left : Option (List (Record ℕ))

abbrev pub run : State ℕ → List (Call ℕ) → List (Answer ℕ) → Run
run s cs ans = record { from = s; calls = cs; answers = ans; left = None }

abbrev pub run_leaves : State ℕ → List (Call ℕ) → List (Answer ℕ) → List (Record ℕ) → Run
run_leaves s cs ans rs = record { from = s; calls = cs; answers = ans; left = Some rs }

abbrev pub runs : List Run
runs =
    -- a reader aborts a pending write that it passes
    run start (Begin 0 ∷ Begin 0 ∷ Write (1 * U) 7 50 ∷ Read (2 * U) 7 ∷ Validate (1 * U) 0 ∷ Settle (1 * U) ∷ [])
    (Number (1 * U) ∷ Number (2 * U) ∷ Number 1 ∷ Value None ∷ Number (3 * U) ∷ Denied (EntryAborted (1 * U)) ∷ [])
    -- without that read it settles; an older reader stamps it and does not see it, a newer one does
    ∷ run_leaves start (Begin 0 ∷ Begin 0 ∷ Write (1 * U) 7 50 ∷ Validate (1 * U) 0 ∷ Settle (1 * U) ∷ Read (2 * U) 7 ∷ FastRead 7 ∷ Begin 0 ∷ Read (4 * U) 7 ∷ [])
    (Number (1 * U) ∷ Number (2 * U) ∷ Number 1 ∷ Number (3 * U) ∷ Number (3 * U) ∷ Value None ∷ Newest (3 * U) (Some 50) ∷ Number (4 * U) ∷ Value (Some 50) ∷ [])
    (record_of 7 (1 * U) (Some (3 * U)) 50 ∷ [])
    -- the second of two writers of a key is denied
    ∷ run start (Begin 0 ∷ Begin 0 ∷ Write (1 * U) 7 1 ∷ Write (2 * U) 7 2 ∷ Validate (1 * U) 0 ∷ Validate (2 * U) 0 ∷ [])
    (Number (1 * U) ∷ Number (2 * U) ∷ Number 1 ∷ Number 1 ∷ Number (3 * U) ∷ Denied (ConflictAtManager 7) ∷ [])
    -- a takeover fences what was validated; the old seat uses up its span
    ∷ run start (Begin 0 ∷ Write (1 * U) 7 1 ∷ Validate (1 * U) 0 ∷ Takeover 1 ∷ Settle (1 * U) ∷ Begin 0 ∷ Begin 0 ∷ Begin 0 ∷ [])
    (Number (1 * U) ∷ Number 1 ∷ Number (2 * U) ∷ Number (5 * U) ∷ Denied (Fenced (1 * U)) ∷ Number (3 * U) ∷ Number (4 * U) ∷ Denied (SpanLost 0) ∷ [])
    -- fast writes count up from the class number, which a read raises
    ∷ run start (FastWrite 7 1 ∷ FastWrite 7 2 ∷ Begin 0 ∷ Begin 0 ∷ Read (2 * U) 7 ∷ FastWrite 7 3 ∷ [])
    (Number 1 ∷ Number 2 ∷ Number (1 * U) ∷ Number (2 * U) ∷ Value (Some 2) ∷ Number 2097153 ∷ [])
    -- the key 71 is of the same class
    ∷ run start (FastWrite 7 1 ∷ FastWrite 7 2 ∷ Begin 0 ∷ Begin 0 ∷ Read (2 * U) 7 ∷ FastWrite 7 3 ∷ FastWrite 71 3 ∷ [])
    (Number 1 ∷ Number 2 ∷ Number (1 * U) ∷ Number (2 * U) ∷ Value (Some 2) ∷ Number 2097153 ∷ Number 2097154 ∷ [])
    -- the class has no number left
    ∷ run (with_class 2097151) (FastWrite 7 1 ∷ []) (Denied (ClassSpent 7) ∷ [])
    -- numbers 1, 2 and 3U: a sweep keeps the greatest number below the floor
    ∷ run_leaves start (FastWrite 7 1 ∷ FastWrite 7 2 ∷ Begin 0 ∷ Begin 0 ∷ Write (1 * U) 7 3 ∷ Validate (1 * U) 0 ∷ Settle (1 * U) ∷ Stamp (1 * U) ∷ Raise 2 ∷ Sweep 7 ∷ Raise 3 ∷ Sweep 7 ∷ [])
    (Number 1 ∷ Number 2 ∷ Number (1 * U) ∷ Number (2 * U) ∷ Number 1 ∷ Number (3 * U) ∷ Number (3 * U) ∷ Number 0 ∷ Number 2 ∷ Number 0 ∷ Number 3 ∷ Number 1 ∷ [])
    (record_of 7 2 (Some 2) 2 ∷ record_of 7 (1 * U) (Some (3 * U)) 3 ∷ [])
    -- a fast change of what is no longer the newest
    ∷ run start (FastWrite 7 1 ∷ FastWrite 7 2 ∷ FastChange 1 7 9 ∷ FastChange 2 7 9 ∷ [])
    (Number 1 ∷ Number 2 ∷ Denied (ConflictAtEngine 7) ∷ Number 3 ∷ [])
    -- the 17th key of a row; an old key is accepted
    ∷ run start (Begin 0 ∷ Write (1 * U) 0 1 ∷ Write (1 * U) 1 1 ∷ Write (1 * U) 2 1 ∷ Write (1 * U) 3 1 ∷ Write (1 * U) 4 1 ∷ Write (1 * U) 5 1 ∷ Write (1 * U) 6 1 ∷ Write (1 * U) 7 1 ∷ Write (1 * U) 8 1 ∷ Write (1 * U) 9 1 ∷ Write (1 * U) 10 1 ∷ Write (1 * U) 11 1 ∷ Write (1 * U) 12 1 ∷ Write (1 * U) 13 1 ∷ Write (1 * U) 14 1 ∷ Write (1 * U) 15 1 ∷ Write (1 * U) 16 1 ∷ Write (1 * U) 3 2 ∷ [])
    (Number (1 * U) ∷ Number 1 ∷ Number 2 ∷ Number 3 ∷ Number 4 ∷ Number 5 ∷ Number 6 ∷ Number 7 ∷ Number 8 ∷ Number 9 ∷ Number 10 ∷ Number 11 ∷ Number 12 ∷ Number 13 ∷ Number 14 ∷ Number 15 ∷ Number 16 ∷ Denied (KeysFull 16) ∷ Number 16 ∷ [])
    ∷ []

-- the records are those told, where any are
abbrev pub Leaves : List (Record ℕ) → Option (List (Record ℕ)) → Type 0
Leaves l None = Unit {0}
Leaves l (Some rs) = l ≡ rs

-- each run of the table gets the answers that stand beside it, and leaves the records
abbrev pub Replay : List Run → Type 0
Replay [] = Unit {0}
Replay (r ∷ rs) = ((replayed r.from r.calls).0 ≡ r.answers) × Leaves (replayed r.from r.calls).1 r.left × Replay rs
