use Rattle.std.proofs.Common.{◌≡◌, ℕ, ◌+◌, ◌-◌, ◌≤◌}
use Rattle.model.specs.Records.{count}
use Rattle.model.specs.Versions.{versions}
use Rattle.model.specs.State.{State, with_records}
use Rattle.model.specs.Sweeping.{sweep_under}
use Rattle.versions.proofs.Going.{from, Met, height}
use Rattle.walks.proofs.sweeping.drop_all_below.Given as goal

abbrev pub invariant-loop-next : goal.invariant-loop-next
invariant-loop-next g l =
    let m = g.S.VersionStore in
    Met (m.records l.store) l.key l.next
    × ((s : State g.row.S-Value.Denot) (n : ℕ)
    → sweep_under l.key l.limit (from (m.records l.store) l.key l.next) (with_records (m.records l.store) s) (n + (count (m.records l.initial.store) - count (m.records l.store)))
    ≡ sweep_under l.key l.limit (versions l.key (m.records l.initial.store)) (with_records (m.records l.initial.store) s) n)
    × (count (m.records l.store) ≤ count (m.records l.initial.store))
    × (m.capacity l.store ≡ m.capacity l.initial.store)

abbrev pub decreases-loop-next : goal.decreases-loop-next
decreases-loop-next g l = height l.next
