use Rattle.std.proofs.Common.{◌≡◌}
use Rattle.model.specs.Versions.{greatest_below_among, greatest_below}
use Rattle.versions.proofs.Going.{from, Met, height}
use Rattle.versions.proofs.questions.greatest_below.Given as goal

abbrev pub invariant-loop-next : goal.invariant-loop-next
invariant-loop-next g l =
    let rs = g.S.VersionStore.records l.store in
    Met rs l.key l.next × (greatest_below_among rs l.key l.floor (from rs l.key l.next) l.greatest ≡ greatest_below l.key l.floor rs)

abbrev pub decreases-loop-next : goal.decreases-loop-next
decreases-loop-next g l = height l.next
