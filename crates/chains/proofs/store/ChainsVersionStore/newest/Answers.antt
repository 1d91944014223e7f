use Rattle.std.proofs.Common.{rules}
use Rattle.chains.proofs.Walking.{toward_start, toward_on, newest_found, newest_ended, walk_less}
use Rattle.chains.proofs.store.ChainsVersionStore.newest.Goals as goal

pub loop-next-init : goal.loop-next-init
loop-next-init g c = rw c.class_of.ensures (toward_start c.args.self.now.sound c.args.key c.args.bound)

pub offset_bounds-nodes-at : goal.offset_bounds-nodes-at
offset_bounds-nodes-at g c = let on = c.loop-next.invariant.on c.in-Some.at c.in-Some.is in search rules

pub bounds-nodes-at : goal.bounds-nodes-at
bounds-nodes-at g c = (c.loop-next.invariant.on c.in-Some.at c.in-Some.is).0

pub returns-then-is_some_and : goal.returns-then-is_some_and
returns-then-is_some_and g c = newest_found c.args.self.now.sound c.index-nodes-at.is (rw c.in-Some.is at c.loop-next.invariant) (λ r e. search rules)

pub loop-next-smaller : goal.loop-next-smaller
loop-next-smaller g c = rw c.in-Some.is (walk_less c.args.self.now.sound c.args.key c.in-Some.at c.index-nodes-at.is (rw c.in-Some.is at c.loop-next.invariant.on))

pub loop-next-preserved : goal.loop-next-preserved
loop-next-preserved g c = toward_on c.args.self.now.sound c.index-nodes-at.is (rw c.in-Some.is at c.loop-next.invariant) (λ r e k l. search rules)

pub returns : goal.returns
returns g c = newest_ended c.args.self.now.sound c.loop-next.invariant c.in_default.is
