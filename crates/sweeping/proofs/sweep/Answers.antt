use Rattle.std.proofs.Common.{refl, sym, ◌∙◌}
use Rattle.engine.specs.Meaning.{database}
use Rattle.engine.proofs.Agreement.{same, same_sizes}
use Rattle.versions.specs.Meaning.{numbers_of}
use Rattle.walks.specs.Memory.{with_memory}
use Rattle.sweeping.proofs.Exits.{sweep_is}
use Rattle.sweeping.proofs.sweep.Goals as goal

pub returns : goal.returns
returns g c =
    let S = g.S.VersionStore in
    let C = g.C.CommitTable in
    let s = database c.args.engine.now c.args.tables.now S c.args.store.now C c.args.commits.now in
    same _ (with_memory (numbers_of c.sweep.new.classes) (S.records c.sweep.new.store) (C.entries c.args.commits.now) s) _ _
    refl refl refl refl refl refl refl refl refl
    (same_sizes _ _ _ _ _ _ _ _ _ _ _ _ _ refl refl refl refl c.sweep.ensures.kept refl) refl
    ∙ (c.sweep.ensures.swept s refl ∙ sym (sweep_is s c.args.key))
