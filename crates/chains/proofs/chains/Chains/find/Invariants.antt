use Rattle.chains.specs.Links.{Walked, left_from, col, tag_of}
use Rattle.chains.proofs.chains.Chains.find.Given as goal

abbrev pub invariant-loop-next : goal.invariant-loop-next
invariant-loop-next g l = Walked l.self.nodes.now l.self.heads l.key l.version l.prev l.next

abbrev pub decreases-loop-next : goal.decreases-loop-next
decreases-loop-next g l = left_from (col tag_of l.self.nodes.now) l.next
