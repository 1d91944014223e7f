use Rattle.std.proofs.Common.{length, sym, refl, ap, ◌∙◌}
use Rattle.model.specs.declared.call.Answer.TheVariants.{Number}
use Rattle.model.specs.Stamping.{row_gone, stamp_records}
use Rattle.versions.specs.Meaning.{numbers_of, with_versions}
use Rattle.engine.specs.Meaning.{lent, database}
use Rattle.engine.proofs.Agreement.{same, same_sizes}
use Rattle.ending.proofs.Exits.{bury_no_row, bury_above, bury_unsettled, bury_settled}
use Rattle.ending.proofs.bury.Goals as goal

pub returns-in_default : goal.returns-in_default
returns-in_default g c = sym (bury_no_row _ c.args.id c.in_default.ensures.row)

pub returns-then-id-engine : goal.returns-then-id-engine
returns-then-id-engine g c = sym (bury_above _ c.args.id _ _ _ c.in-Some.ensures.row c.if-id-engine.true)

pub returns-in_default-phase : goal.returns-in_default-phase
returns-in_default-phase g c = c.abandon.ensures ∙ sym (bury_unsettled _ c.args.id _ _ _ c.in-Some.ensures.row c.if-id-engine.false c.in_default-phase.not-Settled)

pub returns : goal.returns
returns g c =
    let S = g.S.VersionStore in
    let C = g.C.CommitTable in
    let s = database c.args.engine.now (lent c.args.rows.now c.args.conflicts.now) S c.args.store.now C c.args.commits.now in
    let id = c.args.id in
    let n = c.in-Settled.number in
    let l = c.keys_left-keys.result.now in
    same _ (row_gone id (with_versions (numbers_of c.stamp_records.new.classes) (S.records c.stamp_records.new.store) s)) _ _
    refl refl refl refl refl refl c.remove.ensures.after refl c.drop_entry.ensures.dropped
    (same_sizes _ _ _ _ _ _ _ _ _ _ _ _ _ refl c.remove.ensures.kept refl refl c.stamp_records.ensures.kept c.drop_entry.ensures.kept) refl
    ∙ (ap (λ t. (row_gone id t, Number (length l))) (c.stamp_records.ensures.stamped s)
    ∙ (ap (λ ks. (row_gone id (stamp_records id n ks s), Number (length ks))) c.keys_left-keys.ensures
    ∙ sym (bury_settled _ id _ _ _ c.in-Some.ensures.row c.if-id-engine.false n c.in-Settled.is)))
