-- A past: every call on one database since it was opened, with its answer, the first call first. A past alone says who wrote what, what was committed and
-- what was read; nothing here looks at a database.
use Rattle.std.specs.Prelude.{◌≡◌, ℕ, min, cond, ◌&&◌, ◌⊎◌, List, [], ◌∷◌, Some, None, Option, ◌==◌}
use Rattle.model.specs.declared.call.Call.{Call}
use Rattle.model.specs.declared.call.Call.TheVariants.{Takeover, Begin, Write, Read, Validate, Settle, Stamp, Abandon, Bury, Raise, Sweep, FastRead, FastChange, FastWrite}
use Rattle.model.specs.declared.call.Answer.{Answer}
use Rattle.model.specs.declared.call.Answer.TheVariants.{Denied, Number, Value, Newest}
use Rattle.model.specs.Numbers.{last_number}

-- a call and its answer
pub data Event (V : Type 0) : Type 0 where
  answered : Call V → Answer V → Event V

abbrev pub Past : Type 0 → Type 0
Past V = List (Event V)

-- what an accepted call did for transactions: id began; id wrote a value to a key; id read a key and was answered; id was settled, at a number; or a fast call
-- wrote a value to a key, of which its caller had seen one number, at a new number
pub data Effect (V : Type 0) : Type 0 where
  began : ℕ → Effect V
  wrote : ℕ → ℕ → V → Effect V
  read_answered : ℕ → ℕ → Option V → Effect V
  settled_at : ℕ → ℕ → Effect V
  fast_committed : ℕ → ℕ → ℕ → V → Effect V
  no_effect : Effect V

module _ {V : Type 0} where
  -- of a call that was answered by a number
  abbrev pub number_effect : Call V → ℕ → Effect V
  number_effect (Takeover q) n = no_effect
  number_effect (Begin q) n = began n
  number_effect (Write id k x) n = wrote id k x
  number_effect (Read id k) n = no_effect
  number_effect (Validate id q) n = no_effect
  number_effect (Settle id) n = settled_at id n
  number_effect (Stamp id) n = no_effect
  number_effect (Abandon id) n = no_effect
  number_effect (Bury id) n = no_effect
  number_effect (Raise h) n = no_effect
  number_effect (Sweep k) n = no_effect
  number_effect (FastRead k) n = no_effect
  number_effect (FastChange seen k x) n = fast_committed seen n k x
  number_effect (FastWrite k x) n = fast_committed last_number n k x

  -- of a call that was answered by a value or none
  abbrev pub value_effect : Call V → Option V → Effect V
  value_effect (Takeover q) o = no_effect
  value_effect (Begin q) o = no_effect
  value_effect (Write id k x) o = no_effect
  value_effect (Read id k) o = read_answered id k o
  value_effect (Validate id q) o = no_effect
  value_effect (Settle id) o = no_effect
  value_effect (Stamp id) o = no_effect
  value_effect (Abandon id) o = no_effect
  value_effect (Bury id) o = no_effect
  value_effect (Raise h) o = no_effect
  value_effect (Sweep k) o = no_effect
  value_effect (FastRead k) o = no_effect
  value_effect (FastChange seen k x) o = no_effect
  value_effect (FastWrite k x) o = no_effect

  -- a denied call has none
  abbrev pub effect : Call V → Answer V → Effect V
  effect c (Denied w) = no_effect
  effect c (Number n) = number_effect c n
  effect c (Value o) = value_effect c o
  effect c (Newest n o) = no_effect

-- a commit: its start, its number, and the value that it wrote to each key, if it wrote one
pub record Commit (V : Type 0) : Type 0 where
  pub start : ℕ
  pub number : ℕ
  pub values : ℕ → Option V

-- an answered read: the reader's id, which is its start; the key; the reader's own last accepted write of the key before this read; and the answer
pub record AnsweredRead (V : Type 0) : Type 0 where
  pub id : ℕ
  pub key : ℕ
  pub own : Option V
  pub answer : Option V

-- what a past says: the last accepted write of each id to each key, the commits and the answered reads, in both lists the latest first
pub record Summary (V : Type 0) : Type 0 where
  pub writes : ℕ → ℕ → Option V
  pub commits : List (Commit V)
  pub reads : List (AnsweredRead V)

module _ {V : Type 0} where
  -- x at the key k, and nothing at the others
  abbrev pub only : ℕ → V → ℕ → Option V
  only k x q = cond (q == k) (Some x) None

  -- the last writes, after id wrote x to k
  abbrev pub with_write : ℕ → ℕ → V → (ℕ → ℕ → Option V) → ℕ → ℕ → Option V
  with_write id k x w i q = cond (i == id && q == k) (Some x) (w i q)

  -- an accepted settle is a commit: its start is the id, its number the answer, its values the id's last accepted write of each key
  abbrev pub settled_commit : ℕ → ℕ → (ℕ → Option V) → Commit V
  settled_commit id c w = record { start = id; number = c; values = w }

  -- an accepted fast write or change is one: its number f is the answer, its start the lesser of that and the number seen, and it has one value
  abbrev pub fast_commit : ℕ → ℕ → ℕ → V → Commit V
  fast_commit seen f k x = record { start = min seen f; number = f; values = only k x }

  abbrev pub with_effect : Effect V → Summary V → Summary V
  with_effect (began i) h = h
  with_effect (wrote i k x) h = record { writes = with_write i k x h.writes; commits = h.commits; reads = h.reads }
  with_effect (read_answered i k o) h = record { writes = h.writes; commits = h.commits; reads = record { id = i; key = k; own = h.writes i k; answer = o } ∷ h.reads }
  with_effect (settled_at i c) h = record { writes = h.writes; commits = settled_commit i c (h.writes i) ∷ h.commits; reads = h.reads }
  with_effect (fast_committed seen f k x) h = record { writes = h.writes; commits = fast_commit seen f k x ∷ h.commits; reads = h.reads }
  with_effect no_effect h = h

  abbrev pub empty_summary : Summary V
  empty_summary = record { writes = λ i k. None; commits = []; reads = [] }

  -- what h and then the events say
  abbrev pub summary_from : Summary V → Past V → Summary V
  summary_from h [] = h
  summary_from h (answered c a ∷ p) = summary_from (with_effect (effect c a) h) p

  abbrev pub summary : Past V → Summary V
  summary p = summary_from empty_summary p

  abbrev pub commits_of : Past V → List (Commit V)
  commits_of p = (summary p).commits

  abbrev pub reads_of : Past V → List (AnsweredRead V)
  reads_of p = (summary p).reads

-- x is one of the list
abbrev pub In : {A : Type 0} → A → List A → Type 0
In x [] = ⊥
In x (y ∷ ys) = (y ≡ x) ⊎ In x ys
