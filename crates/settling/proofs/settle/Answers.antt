use Rattle.std.proofs.Common.{Err, sym, refl, ap, ◌∙◌}
use Rattle.std.proofs.lemmas.Result.{err_from_is_err_and}
use Rattle.model.specs.Maps.{look_up}
use Rattle.model.specs.Answers.{answer_of}
use Rattle.engine.proofs.Agreement.{same, same_sizes}
use Rattle.engine.proofs.RowTables.{put_found}
use Rattle.settling.proofs.Exits.{denied_left, settle_no_row, settle_phase, settle_fenced, settle_denied, settle_done}
use Rattle.settling.proofs.settle.Goals as goal

pub returns-in_default : goal.returns-in_default
returns-in_default g c = sym (settle_no_row _ c.args.id c.in_default.ensures.row)

pub returns-in_default-phase : goal.returns-in_default-phase
returns-in_default-phase g c = sym (settle_phase _ c.args.id _ _ _ c.in-Some.ensures.row c.in_default-phase.not-Validated)

pub returns-then-id-engine : goal.returns-then-id-engine
returns-then-id-engine g c = sym (settle_fenced _ c.args.id _ _ _ c.in-Some.ensures.row _ c.in-Validated.is c.if-id-engine.true)

pub returns-in_err-commit : goal.returns-in_err-commit
returns-in_err-commit g c =
    let l = g.C.CommitTable.entries c.args.commits.now in
    let w = c.in_err-commit.field-0.0 in
    let e = err_from_is_err_and c.from_residual.result c.from_residual.ensures.1 in
    same _ _ _ _ refl refl refl refl refl refl refl refl
    (denied_left (g.C.CommitTable.capacity c.args.commits.now) c.args.id c.in-Validated.number l _ w (look_up l c.args.id) c.in_err-commit.ensures.placed)
    (same_sizes _ _ _ _ _ _ _ _ _ _ _ _ _ refl refl refl refl refl c.commit.ensures.kept) (ap answer_of (e.1 ∙ ap Err e.2))
    ∙ sym (settle_denied _ c.args.id _ _ _ c.in-Some.ensures.row _ c.in-Validated.is c.if-id-engine.false _ w c.in_err-commit.ensures.placed)

pub returns : goal.returns
returns g c =
    same _ _ _ _ refl refl refl refl refl refl (put_found _ _ _ _ _ _ _ c.put.ensures.after c.in-Some.ensures.id c.in-Some.ensures.row) refl refl
    (same_sizes _ _ _ _ _ _ _ _ _ _ _ _ _ refl c.put.ensures.kept refl refl refl c.commit.ensures.kept) refl
    ∙ sym (settle_done _ c.args.id _ _ _ c.in-Some.ensures.row _ c.in-Validated.is c.if-id-engine.false (g.C.CommitTable.entries c.commit.new.commits) c.in_ok-commit.ensures.placed)
