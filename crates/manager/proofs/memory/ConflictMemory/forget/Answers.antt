use Rattle.std.proofs.Common.{arith}
use Rattle.table.specs.Meaning.{entries}
use Rattle.table.specs.Tables.{entries_rising}
use Rattle.manager.specs.Memory.{pair_of}
use Rattle.manager.proofs.Least.{least_stands}
use Rattle.manager.proofs.memory.ConflictMemory.forget.Goals as goal

pub returns-in-Some-clause-forgot : goal.returns-in-Some-clause-forgot
returns-in-Some-clause-forgot c =
    let t = c.args.self.now.table.now in
    let s = least_stands (entries t) (pair_of c.in-Some.least) (entries_rising t) c.in-Some.ensures in
    grind arith
