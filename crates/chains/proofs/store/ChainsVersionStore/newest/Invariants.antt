use Rattle.chains.specs.Links.{Toward, left_from, col, tag_of}
use Rattle.chains.proofs.store.ChainsVersionStore.newest.Given as goal

abbrev pub invariant-loop-next : goal.invariant-loop-next
invariant-loop-next g l = Toward l.self.nodes.now l.key l.bound l.next

abbrev pub decreases-loop-next : goal.decreases-loop-next
decreases-loop-next g l = left_from (col tag_of l.self.nodes.now) l.next
