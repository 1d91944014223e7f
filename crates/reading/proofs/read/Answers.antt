use Rattle.std.proofs.Common.{sym, refl, ◌∙◌}
use Rattle.engine.specs.Meaning.{database}
use Rattle.engine.proofs.Agreement.{same, same_sizes}
use Rattle.versions.specs.Meaning.{numbers_of}
use Rattle.model.specs.State.{raise_class_of}
use Rattle.walks.specs.Memory.{with_memory}
use Rattle.reading.proofs.Exits.{read_no_row, read_phase, read_below, read_own, read_walk}
use Rattle.reading.proofs.read.Goals as goal

pub returns-in_default : goal.returns-in_default
returns-in_default g c = sym (read_no_row _ c.args.id c.args.key c.in_default.ensures.row)

pub returns-then-id-engine : goal.returns-then-id-engine
returns-then-id-engine g c = sym (read_below _ c.args.id c.args.key _ _ _ c.in-Some.ensures.row c.in-Open.is c.if-id-engine.true)

pub returns-in_default-phase : goal.returns-in_default-phase
returns-in_default-phase g c = sym (read_phase _ c.args.id c.args.key _ _ _ c.in-Some.ensures.row c.in_default-phase.not-Open)

pub returns-in-Some-record_at : goal.returns-in-Some-record_at
returns-in-Some-record_at g c =
    let S = g.S.VersionStore in
    let C = g.C.CommitTable in
    let s = database c.args.engine.now c.args.tables.now S c.args.store.now C c.args.commits.now in
    same _ (raise_class_of c.args.key c.args.id s) _ _ refl refl refl c.raise.ensures refl refl refl refl refl refl refl
    ∙ sym (read_own s c.args.id c.args.key _ _ _ c.in-Some.ensures.row c.in-Open.is c.if-id-engine.false _ c.in-Some-record_at.ensures)

pub returns : goal.returns
returns g c =
    let S = g.S.VersionStore in
    let C = g.C.CommitTable in
    let s = database c.args.engine.now c.args.tables.now S c.args.store.now C c.args.commits.now in
    same _ (with_memory (numbers_of c.walk-found.new.classes) (S.records c.walk-found.new.store) (C.entries c.walk-found.new.commits) s) _ _
    refl refl refl refl refl refl refl refl refl
    (same_sizes _ _ _ _ _ _ _ _ _ _ _ _ _ refl refl refl refl c.walk-found.ensures.records c.walk-found.ensures.entries) c.value_found.ensures
    ∙ (c.walk-found.ensures.walked s refl refl
    ∙ sym (read_walk s c.args.id c.args.key _ _ _ c.in-Some.ensures.row c.in-Open.is c.if-id-engine.false c.in_default-record_at.ensures))
