use Rattle.chains.proofs.Walking.{on_has, walked_on, found_at, walk_on, walk_less}
use Rattle.chains.proofs.chains.Chains.find.Goals as goal

pub loop-next-smaller : goal.loop-next-smaller
loop-next-smaller g c = rw c.in-Some.is (walk_less c.args.self.now.sound c.args.key c.in-Some.at c.index-nodes-at.is (walked_on c.args.self.now.sound (rw c.in-Some.is at c.loop-next.invariant)))

pub loop-next-preserved : goal.loop-next-preserved
loop-next-preserved g c = walk_on c.args.self.now.sound c.index-nodes-at.is c.unwrap.ensures (rw c.in-Some.is at c.loop-next.invariant) c.in-Greater.ensures

pub returns-in-Equal : goal.returns-in-Equal
returns-in-Equal g c = found_at c.args.self.now.sound c.index-nodes-at.is c.unwrap.ensures (rw c.in-Some.is at c.loop-next.invariant) c.in-Equal.ensures

pub unwrap-requires : goal.unwrap-requires
unwrap-requires g c = on_has c.args.self.now.sound c.args.key c.in-Some.at c.index-nodes-at.is (walked_on c.args.self.now.sound (rw c.in-Some.is at c.loop-next.invariant))
