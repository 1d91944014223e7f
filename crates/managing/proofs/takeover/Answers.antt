use Rattle.std.proofs.Common.{max, Err, sym, refl, ap, ◌∙◌}
use Rattle.std.proofs.lemmas.Result.{err_from_is_err_and}
use Rattle.model.specs.declared.call.Answer.TheVariants.{Number}
use Rattle.model.specs.Answers.{answer_of}
use Rattle.manager.specs.Conflicts.{Conflicts, conflicts_of}
use Rattle.manager.specs.Meaning.{Numbers, numbers, seats}
use Rattle.manager.proofs.Taking.{taken_seats}
use Rattle.engine.proofs.Agreement.{same, same_sizes}
use Rattle.managing.proofs.Exits.{takeover_err, takeover_ok}
use Rattle.managing.proofs.takeover.Goals as goal

pub returns-in_err-low : goal.returns-in_err-low
returns-in_err-low g c =
    let p = numbers c.args.engine.now.managers in
    let k = conflicts_of c.args.conflicts.now in
    let e = err_from_is_err_and c.from_residual.result c.from_residual.ensures.1 in
    let d = takeover_err _ c.args.seat p _ refl refl c.in_err-low.field-0.0 c.in_err-low.ensures in
    same _ _ _ _ (ap (λ (q : Numbers). q.cell) d.same) refl refl refl (ap (λ (q : Numbers). seats q k) d.same) (ap (λ (q : Numbers). q.charge) d.same) refl refl refl
    (same_sizes _ _ _ _ _ _ _ _ _ _ _ _ _ (ap (λ (q : Numbers). q.span) d.same) refl refl refl refl refl) (ap answer_of (e.1 ∙ ap Err e.2))
    ∙ sym d.exit

pub returns : goal.returns
returns g c =
    let p = numbers c.args.engine.now.managers in
    let k = conflicts_of c.args.conflicts.now in
    let d = takeover_ok _ c.args.seat p _ refl refl c.in_ok-low.low c.in_ok-low.ensures in
    same _ _ _ _ (ap (λ (q : Numbers). q.cell) d.is) (c.max-engine.ensures ∙ ap (λ n. max c.args.engine.now.fence n) d.number) refl refl
    (ap (seats (numbers c.takeover.new.self)) c.clear.ensures ∙ taken_seats c.args.seat p _ k d.seat d.is)
    (ap (λ (q : Numbers). q.charge) d.is) refl refl refl
    (same_sizes _ _ _ _ _ _ _ _ _ _ _ _ _ (ap (λ (q : Numbers). q.span) d.is) refl (ap (λ (q : Conflicts). q.places0) c.clear.ensures) (ap (λ (q : Conflicts). q.places1) c.clear.ensures) refl refl) (ap Number d.number)
    ∙ sym d.exit
