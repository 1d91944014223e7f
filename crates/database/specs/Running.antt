-- Running a list of calls on a database from its opening on.
use Rattle.std.specs.Prelude.{◌≡◌, ℕ, cond, List, [], ◌∷◌, length, Ok, Err, Result, ◌==◌}
use Rattle.model.specs.declared.call.Opening.{Opening}
use Rattle.model.specs.declared.call.Call.{Call}
use Rattle.model.specs.declared.call.Answer.{Answer}
use Rattle.model.specs.declared.refusal.Refusal.{Refusal}
use Rattle.model.specs.declared.refusal.Refusal.TheVariants.{OutsideLimits}
use Rattle.model.specs.State.{State, opened}
use Rattle.model.specs.Step.{step}
use Rattle.engine.specs.declared.engine.Engine.{Engine}
use Rattle.history.specs.Past.{Past, answered}
use Rattle.model.specs.After.{after}
use Rattle.history.specs.Law.{Lawful}

module _ {V : Type 0} where
  -- the answers to some calls on the database s, the first call first
  abbrev pub answers_to : State V → List (Call V) → List (Answer V)
  answers_to s [] = []
  answers_to s (c ∷ cs) = (step s c).1 ∷ answers_to (step s c).0 cs

  -- the past that some calls and the answers written beside them make
  abbrev pub written_past : List (Call V) → List (Answer V) → Past V
  written_past [] ans = []
  written_past (c ∷ cs) [] = []
  written_past (c ∷ cs) (a ∷ ans) = answered c a ∷ written_past cs ans

  -- opening a database with a place for the answer to each call; the store holds m records, the commit table n entries
  abbrev pub opened_for : Opening → ℕ → ℕ → List (Call V) → List (Answer V) → Result (State V) Refusal
  opened_for z m n cs ans = cond (length ans == length cs) (opened z m n) (Err OutsideLimits)

  -- a run from the opening z: the database s opened, the answers written are the reference database's, the state t at the end is the reference database's, and the past written
  -- obeys the whole history law: each read is right, commits of a key are in order, and a new reader finds what all the commits left
  pub record Ran (z : Opening) (m n : ℕ) (cs : List (Call V)) (before ans : List (Answer V)) (t : State V) : Type 0 where
    pub start : State V
    pub opens : opened_for z m n cs before ≡ Ok start
    pub answers : ans ≡ answers_to start cs
    pub end : t ≡ after start cs
    pub lawful : Lawful (written_past cs ans) t

  -- what a run came to: the state at the end is meant by the engine that is answered; a refusal is the opening's, and leaves everything as it was
  abbrev pub Outcome : Result Engine Refusal → Opening → ℕ → ℕ → List (Call V) → List (Answer V) → List (Answer V) → (Engine → State V) → Type 0 → Type 0
  Outcome (Ok e) z m n cs before ans means Unchanged = Ran z m n cs before ans (means e)
  Outcome (Err w) z m n cs before ans means Unchanged = (opened_for z m n cs before ≡ Err w) × Unchanged
