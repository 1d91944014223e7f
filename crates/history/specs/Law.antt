-- The history law. (a) and (b) are about a past alone, so that anyone can check a past by hand; (c) ties it to the database that answered.
use Rattle.std.specs.Prelude.{◌≡◌, ℕ, ◌<◌, ◌≤◌, List, [], ◌∷◌, Some, Ok, Option, ◌≢◌}
use Rattle.model.specs.declared.call.Call.{Call}
use Rattle.model.specs.declared.call.Call.TheVariants.{Begin, Read}
use Rattle.model.specs.declared.call.Answer.TheVariants.{Number, Value}
use Rattle.model.specs.declared.call.Opening.{Opening}
use Rattle.model.specs.State.{State, opened}
use Rattle.model.specs.Step.{step}
use Rattle.model.specs.After.{after}
use Rattle.history.specs.Past.{answered, Past, Commit, AnsweredRead, commits_of, reads_of, In}
use Rattle.history.specs.Keys.{or_else, holds, below}

module _ {V : Type 0} where
  -- (a) Every answered read gave the reader's own last accepted write of the key before it; where there was none, what the key holds after exactly the commits
  -- of the whole past that are numbered below the reader's start, those made after the read included.
  abbrev pub Snapshots : Past V → Type 0
  Snapshots p = (r : AnsweredRead V) → In r (reads_of p) → r.answer ≡ or_else r.own (holds (below r.id (commits_of p)) r.key)

  -- where both wrote a key, the numbers differ, and the lower number is at most the other's start
  abbrev pub Apart : Commit V → Commit V → Type 0
  Apart c d = (k : ℕ) (x y : V) → c.values k ≡ Some x → d.values k ≡ Some y
      → (c.number ≢ d.number) × (c.number < d.number → c.number ≤ d.start) × (d.number < c.number → d.number ≤ c.start)

  -- (b) So it is with any two commits of the list, at different places.
  abbrev pub Ordered : List (Commit V) → Type 0
  Ordered [] = Unit {0}
  Ordered (c ∷ cs) = ((d : Commit V) → In d cs → Apart c d) × Ordered cs

  -- the law of a past alone
  pub record Law (p : Past V) : Type 0 where
    pub snapshots : Snapshots p
    pub order : Ordered (commits_of p)

  -- (c) All the commits of the past p, which led to the state s, leave each key with what a transaction begun now by the manager in charge reads, if both calls are
  -- accepted.
  abbrev pub NewestRead : Past V → State V → Type 0
  NewestRead p s = (q id k : ℕ) (o : Option V) → s.in_charge ≡ Some q → (step s (Begin q)).1 ≡ Number id → (step (step s (Begin q)).0 (Read id k)).1 ≡ Value o
      → o ≡ holds (commits_of p) k

  -- the whole law of a past and the state that it led to: (a), (b) and (c)
  pub record Lawful (p : Past V) (s : State V) : Type 0 where
    pub law : Law p
    pub newest : NewestRead p s

  -- the past that some calls make, the first call first
  abbrev pub past_of : State V → List (Call V) → Past V
  past_of s [] = []
  past_of s (c ∷ cs) = let p = step s c in answered c p.1 ∷ past_of p.0 cs

  -- the whole law of some calls on the database s, just opened
  abbrev pub Obeys : State V → List (Call V) → Type 0
  Obeys s cs = Lawful (past_of s cs) (after s cs)

-- The theorem: every database that opens obeys it, whatever the calls, however many and whichever were denied.
abbrev pub Holds : Type 0 → Type 0
Holds V = (z : Opening) (m n : ℕ) (s : State V) → opened z m n ≡ Ok s → (cs : List (Call V)) → Obeys s cs
