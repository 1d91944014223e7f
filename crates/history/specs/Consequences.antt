-- What follows from the history law, in the words in which users quote it. For every kind of value.
use Rattle.std.specs.Prelude.{◌≡◌, ℕ, ◌<◌, ◌≤◌, cond, List, [], ◌∷◌, ◌++◌, length, Some, None, Ok, Option, ◌≢◌}
use Rattle.model.specs.declared.call.Opening.{Opening}
use Rattle.model.specs.declared.call.Call.{Call}
use Rattle.model.specs.declared.call.Call.TheVariants.{Begin, Read}
use Rattle.model.specs.declared.call.Answer.TheVariants.{Number, Value}
use Rattle.model.specs.Maps.{is_there}
use Rattle.model.specs.State.{State, opened}
use Rattle.model.specs.Step.{step}
use Rattle.model.specs.After.{after}
use Rattle.history.specs.Past.{Past, answered, Effect, began, wrote, read_answered, settled_at, fast_committed, no_effect, effect, Commit, AnsweredRead, commits_of, reads_of, In}
use Rattle.history.specs.Law.{Law, past_of}

module _ {V : Type 0} where
  -- the effect is no write of id to k
  abbrev pub NoWrite : ℕ → ℕ → Effect V → Type 0
  NoWrite id k (began i) = Unit {0}
  NoWrite id k (wrote i q x) = i ≡ id → q ≢ k
  NoWrite id k (read_answered i q o) = Unit {0}
  NoWrite id k (settled_at i n) = Unit {0}
  NoWrite id k (fast_committed m n q x) = Unit {0}
  NoWrite id k no_effect = Unit {0}

  -- among the events is no accepted write of id to k
  abbrev pub Unwritten : ℕ → ℕ → Past V → Type 0
  Unwritten id k [] = Unit {0}
  Unwritten id k (answered c a ∷ p) = NoWrite id k (effect c a) × Unwritten id k p

  -- the numbers of the commits that wrote k
  abbrev pub numbers_on : ℕ → List (Commit V) → List ℕ
  numbers_on k [] = []
  numbers_on k (c ∷ cs) = let r = numbers_on k cs in cond (is_there (c.values k)) (c.number ∷ r) r

-- no number stands twice
abbrev pub Distinct : List ℕ → Type 0
Distinct [] = Unit {0}
Distinct (n ∷ ns) = (In n ns → ⊥) × Distinct ns

-- Two answered reads of one key by one transaction, with no write of its own between, agree.
abbrev pub Repeatable : Type 0 → Type 0
Repeatable V = (before between rest : Past V) (id k : ℕ) (o u : Option V)
    → Law (before ++ (answered (Read id k) (Value o) ∷ (between ++ (answered (Read id k) (Value u) ∷ rest)))) → Unwritten id k between → o ≡ u

-- A commit number is never used twice on a key.
abbrev pub NumbersOnce : Type 0 → Type 0
NumbersOnce V = (p : Past V) → Law p → (k : ℕ) → Distinct (numbers_on k (commits_of p))

-- What a commit c wrote to k, a settled transaction's or a fast one, is read by every transaction that the manager in charge begins later, until a higher commit on the
-- key: the calls `before` made c, then the manager q in charge began id, and among all the commits, those of the calls `later` included, none on k is numbered
-- above c and below id. Then every answered read of k by id, where it has not itself written k, gave that value.
abbrev pub Lasting : Type 0 → Type 0
Lasting V = (z : Opening) (m n : ℕ) (s : State V) → opened z m n ≡ Ok s → (before later : List (Call V)) (q id : ℕ)
    → (after s before).in_charge ≡ Some q → (step (after s before) (Begin q)).1 ≡ Number id
    → (c : Commit V) (k : ℕ) (x : V) → In c (commits_of (past_of s before)) → c.values k ≡ Some x
    → ((d : Commit V) (y : V) → In d (commits_of (past_of s (before ++ (Begin q ∷ later)))) → d.values k ≡ Some y → d.number < id → d.number ≤ c.number)
    → (r : AnsweredRead V) → In r (reads_of (past_of s (before ++ (Begin q ∷ later)))) → r.id ≡ id → r.key ≡ k → r.own ≡ None → r.answer ≡ Some x

-- Commit entries never outnumber rows.
abbrev pub EntriesWithinRows : Type 0 → Type 0
EntriesWithinRows V = (z : Opening) (m n : ℕ) (s : State V) → opened z m n ≡ Ok s → (cs : List (Call V)) → length (after s cs).entries ≤ length (after s cs).rows
