use Rattle.std.proofs.Common.{sym, refl, ap, ◌∙◌}
use Rattle.model.specs.declared.call.Answer.TheVariants.{Number}
use Rattle.model.specs.Versions.{drop_pending_all, count_pending_all}
use Rattle.engine.proofs.Agreement.{same, same_sizes}
use Rattle.ending.proofs.Exits.{abandon_no_row, abandon_settled, abandon_done}
use Rattle.ending.proofs.abandon.Goals as goal

pub returns-in_default : goal.returns-in_default
returns-in_default g c = sym (abandon_no_row _ c.args.id c.in_default.ensures.row)

pub returns-in-Settled : goal.returns-in-Settled
returns-in-Settled g c = sym (abandon_settled _ c.args.id _ _ _ c.in-Some.ensures.row _ c.in-Settled.is)

pub returns : goal.returns
returns g c =
    let l = g.S.VersionStore.records c.args.store.now in
    same _ _ _ _ refl refl refl refl refl refl c.remove.ensures.after
    (c.drop_pending_all-dropped.ensures.after ∙ ap (λ ks. drop_pending_all c.args.id ks l) c.as_slice.ensures) c.drop_entry.ensures.dropped
    (same_sizes _ _ _ _ _ _ _ _ _ _ _ _ _ refl c.remove.ensures.kept refl refl c.drop_pending_all-dropped.ensures.kept c.drop_entry.ensures.kept)
    (ap Number (c.drop_pending_all-dropped.ensures.answer ∙ ap (λ ks. count_pending_all c.args.id ks l) c.as_slice.ensures))
    ∙ sym (abandon_done _ c.args.id _ _ _ c.in-Some.ensures.row c.in_default-phase.not-Settled)
