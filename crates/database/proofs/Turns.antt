-- One call more, and the past that is written.
use Rattle.std.proofs.Common.{◌≡◌, ℕ, ◌+◌, ◌<◌, List, [], ◌∷◌, ◌++◌, length, get_or, take, set, Ok, sym, refl, ap, ◌∙◌}
use Rattle.std.proofs.lemmas.List.{take_more, take_more_set}
use Rattle.std.proofs.lemmas.Bool.{eq-eqb}
use Rattle.model.specs.declared.call.Opening.{Opening}
use Rattle.model.specs.declared.call.Call.{Call}
use Rattle.model.specs.declared.call.Answer.{Answer}
use Rattle.model.specs.State.{State, opened}
use Rattle.model.specs.Step.{step}
use Rattle.history.specs.Past.{answered}
use Rattle.model.specs.After.{after}
use Rattle.history.specs.Law.{past_of}
use Rattle.history.proofs.Theorem.{history}
use Rattle.database.specs.Running.{answers_to, written_past, Ran}

module _ {V : Type 0} where
  after_more : (s : State V) (cs : List (Call V)) (c : Call V) → after s (cs ++ c ∷ []) ≡ (step (after s cs) c).0
  after_more s [] c = refl
  after_more s (d ∷ cs) c = after_more (step s d).0 cs c

  answers_more : (s : State V) (cs : List (Call V)) (c : Call V) → answers_to s (cs ++ c ∷ []) ≡ answers_to s cs ++ (step (after s cs) c).1 ∷ []
  answers_more s [] c = refl
  answers_more s (d ∷ cs) c = ap (λ l. (step s d).1 ∷ l) (answers_more (step s d).0 cs c)

  -- from s the first i calls led to t, with their answers in place; the call c, at i, leads to u with the answer r
  module _ (s t u : State V) (r : Answer V) (cs : List (Call V)) (ans : List (Answer V)) (i : ℕ) (c : Call V) (l : i < length cs) (is : c ≡ get_or cs i c) (at : t ≡ after s (take i cs)) (called : (u, r) ≡ step t c) where
    first_calls : take (i + 1) cs ≡ take i cs ++ c ∷ []
    first_calls = take_more cs i c l ∙ ap (λ d. take i cs ++ d ∷ []) (sym is)

    pub state_more : u ≡ after s (take (i + 1) cs)
    state_more = ap (λ (p : State V × Answer V). p.0) called ∙ (ap (λ x. (step x c).0) at ∙ (sym (after_more s (take i cs) c) ∙ ap (after s) (sym first_calls)))

    pub answer_more : i < length ans → take i ans ≡ answers_to s (take i cs) → take (i + 1) (set ans i r) ≡ answers_to s (take (i + 1) cs)
    answer_more m so =
        take_more_set ans i r m
        ∙ (ap (λ x. x ++ r ∷ []) so
        ∙ (ap (λ y. answers_to s (take i cs) ++ y ∷ []) (ap (λ (p : State V × Answer V). p.1) called ∙ ap (λ x. (step x c).1) at)
        ∙ (sym (answers_more s (take i cs) c) ∙ ap (answers_to s) (sym first_calls))))

  -- the past that is written is the past of the calls
  pub written_is : (s : State V) (cs : List (Call V)) → written_past cs (answers_to s cs) ≡ past_of s cs
  written_is s [] = refl
  written_is s (c ∷ cs) = ap (λ p. answered c (step s c).1 ∷ p) (written_is (step s c).0 cs)

  -- a run whose answers and end are the reference database's
  pub ran : (z : Opening) (m n : ℕ) (cs : List (Call V)) (before ans : List (Answer V)) (s t : State V)
      → length before ≡ length cs → Ok s ≡ opened z m n → ans ≡ answers_to s cs → t ≡ after s cs → Ran z m n cs before ans t
  ran z m n cs before ans s t l o a e =
      record {
        start = s;
        opens = rw (eq-eqb (length before) (length cs) l) (sym o);
        answers = a;
        end = e;
        lawful = rw (a, e, written_is s cs) (history z m n s (sym o) cs);
      }
