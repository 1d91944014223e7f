use Rattle.std.proofs.Common.{arith}
use Rattle.std.proofs.lemmas.Grind.{common_steps}
use Rattle.table.specs.Meaning.{capacity}
use Rattle.manager.specs.Memory.{memory}
use Rattle.manager.proofs.Forgetting.{entering_folds}
use Rattle.manager.proofs.memory.ConflictMemory.enter_all.Goals as goal

pub returns-clause-entered : goal.returns-clause-entered
returns-clause-entered c =
    let m = c.args.self.now in
    grind (arith, common_steps, entering_folds (capacity m.table.now) c.args.number c.args.keys.now (memory m))
