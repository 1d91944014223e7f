use Rattle.std.proofs.Common.{◌≡◌, ◌-◌, ◌≤◌}
use Rattle.model.specs.Records.{count}
use Rattle.model.specs.Versions.{versions}
use Rattle.model.specs.State.{State}
use Rattle.model.specs.Sweeping.{sweep_down}
use Rattle.versions.specs.Meaning.{numbers_of}
use Rattle.versions.proofs.Going.{from, Met, height}
use Rattle.walks.specs.Memory.{with_memory}
use Rattle.walks.proofs.sweeping.sweep_all_pending.Given as goal

abbrev pub invariant-loop-next : goal.invariant-loop-next
invariant-loop-next g l =
    let m = g.S.VersionStore in
    let es = g.C.CommitTable.entries l.commits in
    Met (m.records l.store) l.key l.next
    × ((s : State g.row.S-Value.Denot) → s.floor ≡ l.floor
    → sweep_down l.key (from (m.records l.store) l.key l.next) (with_memory (numbers_of l.classes) (m.records l.store) es s) (count (m.records l.initial.store) - count (m.records l.store))
    ≡ sweep_down l.key (versions l.key (m.records l.initial.store)) (with_memory (numbers_of l.initial.classes) (m.records l.initial.store) es s) 0)
    × (count (m.records l.store) ≤ count (m.records l.initial.store))
    × (m.capacity l.store ≡ m.capacity l.initial.store)

abbrev pub decreases-loop-next : goal.decreases-loop-next
decreases-loop-next g l = height l.next
