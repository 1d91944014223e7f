use Rattle.std.proofs.Common.{refl, arith}
use Rattle.chains.proofs.Calling.{free_more, cleared}
use Rattle.chains.proofs.memory.ChainsMemory.chains.Goals as goal

pub loop-i-preserved : goal.loop-i-preserved
loop-i-preserved g c = let more = free_more c.loop-i.nodes c.loop-i.i _ (omega arith) refl refl c.loop-i.invariant.all c.loop-i.invariant.freed in record { all = more.0; freed = more.1 }

pub invariant_of-result : goal.invariant_of-result
invariant_of-result g c = record { sound = (cleared c.loop-i.auto.nodes (omega arith) c.loop-i.invariant.all c.loop-i.invariant.freed).1 }

pub returns-clause-empty : goal.returns-clause-empty
returns-clause-empty g c = (cleared c.loop-i.auto.nodes (omega arith) c.loop-i.invariant.all c.loop-i.invariant.freed).0
