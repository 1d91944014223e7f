-- From a run over lent tables to its answers.
use Rattle.std.proofs.Common.{◌≡◌, ℕ, suc, List, [], ◌∷◌, ◌++◌, length, take, Result, Ok, Err, IfOk, sym, refl, ap, ◌∙◌}
use Rattle.std.proofs.Math.Seq.{take-append_seam}
use Rattle.std.proofs.lemmas.Bool.{eq-eqb}
use Rattle.model.specs.declared.call.Opening.{Opening}
use Rattle.model.specs.declared.call.Call.{Call}
use Rattle.model.specs.declared.call.Answer.{Answer}
use Rattle.model.specs.State.{State}
use Rattle.model.specs.Step.{step}
use Rattle.database.specs.Running.{answers_to, Ran}
use Rattle.std.specs.Global.{Vec}
use Rattle.host.specs.Running.{with_places, Answered}

module _ {V : Type 0} where
  pub length_answers : (s : State V) (cs : List (Call V)) → length (answers_to s cs) ≡ length cs
  length_answers s [] = refl
  length_answers s (c ∷ cs) = ap suc (length_answers (step s c).0 cs)

  pub answered : (z z' : Opening) (m n : ℕ) (cs : List (Call V)) (before ans : List (Answer V)) (t : State V)
      → Ran z m n cs before ans t → z ≡ z' → length before ≡ length cs → Answered z' m n cs ans
  answered z z' m n cs before ans t r e l =
      let o = r.opens in
      record {
        start = r.start;
        opens = rw (← e) (rw (eq-eqb (length before) (length cs) l) at o);
        answers = r.answers;
        lawful = rw (← r.end) r.lawful;
      }

  -- where the answers were written over the first k places, they stand there
  pub answers_there : (k : ℕ) (cs : List (Call V)) (ans rest : List (Answer V)) (z : Opening) (m n : ℕ) → k ≡ length cs → Answered z m n cs ans → Answered z m n cs (take k (ans ++ rest))
  answers_there k cs ans rest z m n l a =
      let e : length ans ≡ k = ap length a.answers ∙ (length_answers a.start cs ∙ sym l) in
      rw (← e) (rw (take-append_seam ans rest) a)

  -- over an empty store with as many places as the opening says
  pub on_fresh : {E : Type 0} (n m : ℕ) (z : Opening) (cs : List (Call V)) (r : Result (Vec (Answer V)) E) → n ≡ z.records → m ≡ 0
      → IfOk r (λ v. Answered (with_places n z.entries z) m 0 cs v.items) → IfOk r (λ v. Answered z 0 0 cs v.items)
  on_fresh n m z cs (Ok v) e f a = rw (e, f) at a
  on_fresh n m z cs (Err w) e f a = tt
