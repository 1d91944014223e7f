use Rattle.std.proofs.Common.{◌≡◌, ◌||◌}
use Rattle.model.specs.Versions.{pending_among, has_pending, greatest_among, greatest_stamped}
use Rattle.versions.specs.Meaning.{greatest_of}
use Rattle.versions.proofs.Going.{from, Met, height}
use Rattle.versions.proofs.questions.summary.Given as goal

abbrev pub invariant-loop-next : goal.invariant-loop-next
invariant-loop-next g l =
    let rs = g.S.VersionStore.records l.store in
    Met rs l.key l.next
    × ((l.seen.pending || pending_among rs l.key (from rs l.key l.next)) ≡ has_pending l.key rs)
    × (greatest_among rs l.key (from rs l.key l.next) (greatest_of l.seen) ≡ greatest_stamped l.key rs)

abbrev pub decreases-loop-next : goal.decreases-loop-next
decreases-loop-next g l = height l.next
