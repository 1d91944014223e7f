use Rattle.std.proofs.Common.{◌≡◌, ℕ, true, List, [], ◌∷◌, Ok, refl, ap, ◌∙◌, subst}
use Rattle.model.specs.Maps.{look_up, enter, remove}
use Rattle.model.specs.Records.{record_at, put, mark, drop_record}
use Rattle.model.specs.Versions.{versions_down, pending_among, greatest_among, greatest_below_among, drop_pending_all, count_pending_all}
use Rattle.model.specs.Classes.{class_number, raise_class}
use Rattle.model.specs.Managers.{take_step, least_entry, first_conflict, enter_conflict, enter_conflicts}
use Rattle.model.specs.declared.call.Answer.{Answer}
use Rattle.model.specs.State.{State, fresh, within, opened}
use Rattle.model.specs.Stamping.{stamp_records}
use Rattle.model.specs.Sweeping.{sweep_down, sweep_under}
use Rattle.model.specs.Step.{step}
use Rattle.model.specs.Runs.{largest}
use Rattle.model.proofs.Computing.{answers_are, first_answer}
use Rattle.history.specs.Past.{Past, answered}
use Rattle.model.specs.After.{after}
use Rattle.history.specs.Law.{Lawful, past_of}
use Rattle.history.specs.Honest.{honest, calls_of, largest_database}
use Rattle.history.proofs.Theorem.{history}
use Rattle.history.proofs.honest_past_obeys.Goals as goal

opens : opened largest 0 0 ≡ Ok largest_database
unfolding within opened
opens = refl

-- the answers of a past
abbrev answers_of : Past ℕ → List (Answer ℕ)
answers_of [] = []
answers_of (answered c a ∷ p) = a ∷ answers_of p

computed : answers_are largest_database (calls_of honest) (answers_of honest) ≡ true
unfolding look_up enter remove class_number raise_class record_at put mark drop_record versions_down pending_among greatest_among greatest_below_among drop_pending_all count_pending_all fresh take_step least_entry first_conflict enter_conflict enter_conflicts stamp_records sweep_down sweep_under step
computed = refl

past_sound : (s : State ℕ) (p : Past ℕ) → answers_are s (calls_of p) (answers_of p) ≡ true → past_of s (calls_of p) ≡ p
past_sound s [] e = refl
past_sound s (answered c a ∷ p) e =
    let f = first_answer s c (calls_of p) a (answers_of p) e in
    ap (λ b. answered c b ∷ past_of (step s c).0 (calls_of p)) f.0 ∙ ap (λ r. answered c a ∷ r) (past_sound (step s c).0 p f.1)

is_past : past_of largest_database (calls_of honest) ≡ honest
is_past = past_sound largest_database honest computed

pub returns : goal.returns
returns c = record {
  opens = opens;
  is_past = is_past;
  obeys = subst (λ p. Lawful p (after largest_database (calls_of honest))) is_past (history largest 0 0 largest_database opens (calls_of honest));
  commits = refl;
  reads = refl;
}
