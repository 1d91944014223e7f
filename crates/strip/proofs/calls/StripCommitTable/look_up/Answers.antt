use Rattle.std.proofs.Common.{get_or, Some, sym, ap, ◌∙◌}
use Rattle.std.specs.Option.{option_map}
use Rattle.model.specs.declared.words.CommitEntry.TheVariants.{Aborted}
use Rattle.strip.specs.Arranged.{look_arranged}
use Rattle.strip.specs.Meaning.{body_of}
use Rattle.strip.proofs.Filled.{look_by_place}
use Rattle.strip.proofs.calls.StripCommitTable.look_up.Goals as goal

pub returns-in_err-place : goal.returns-in_err-place
returns-in_err-place c =
    let es = body_of c.args.self.now in
    let f = option_map (λ p. (get_or es p (0, Aborted)).1) in
    look_arranged es c.args.id ∙ look_by_place es c.args.id (0, Aborted) ∙ ap f c.in_err-place.ensures.place ∙ sym c.from_residual.ensures

pub returns : goal.returns
returns c =
    let es = body_of c.args.self.now in
    let f = option_map (λ p. (get_or es p (0, Aborted)).1) in
    look_arranged es c.args.id ∙ look_by_place es c.args.id (0, Aborted) ∙ ap f c.in_ok-place.ensures.place ∙ ap Some (sym (c.entry_at.ensures (0, Aborted)))
