use Rattle.std.proofs.Common.{refl, ◌∙◌}
use Rattle.engine.proofs.Agreement.{same_sizes}
use Rattle.host.proofs.Runs.{answered, answers_there}
use Rattle.host.proofs.running.with_tables.Goals as goal

pub returns : goal.returns
returns g c =
    let sizes = same_sizes c.args.opening.now.first c.args.opening.now.span _ _ _ _ _ _ _ _ _ _ _ refl
    (c.over.ensures.places ∙ (c.as_mut_slice.ensures.len ∙ c.in_ok-rows.ensures.len))
    (c.over-2.ensures.places ∙ (c.as_mut_slice-2.ensures.len ∙ c.in_ok-conflicts0.ensures.len))
    (c.over-3.ensures.places ∙ (c.as_mut_slice-3.ensures.len ∙ c.in_ok-conflicts1.ensures.len)) refl refl in
    answers_there _ _ _ _ _ _ _ c.in_ok-answers.ensures.len
    (answered _ _ _ _ _ _ _ _ c.in_ok-run.ensures sizes (c.as_mut_slice-4.ensures.len ∙ c.in_ok-answers.ensures.len))
