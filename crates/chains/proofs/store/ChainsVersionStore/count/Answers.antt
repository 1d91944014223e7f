use Rattle.std.proofs.Common.{arith}
use Rattle.chains.proofs.Calling.{counted}
use Rattle.chains.proofs.store.ChainsVersionStore.count.Goals as goal

pub returns : goal.returns
returns g c = let all = counted c.args.self.now.sound in omega arith
