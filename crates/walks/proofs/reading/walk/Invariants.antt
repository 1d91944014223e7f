use Rattle.std.proofs.Common.{◌≡◌, suc, ◌≤◌, []}
use Rattle.model.specs.Versions.{versions_down}
use Rattle.model.specs.State.{State}
use Rattle.model.specs.Reading.{walk}
use Rattle.versions.specs.Meaning.{numbers_of}
use Rattle.versions.proofs.Going.{from, Met, height}
use Rattle.walks.specs.Memory.{with_memory}
use Rattle.walks.proofs.Finding.{Passed}
use Rattle.walks.proofs.reading.walk.Given as goal

abbrev pub invariant-loop-next : goal.invariant-loop-next
invariant-loop-next g l =
    let m = g.S.VersionStore in
    let t = g.C.CommitTable in
    Met (m.records l.store) l.key l.next
    × ((s : State g.row.S-Value.Denot) → s.fence ≡ l.fence → s.opening.entries ≡ t.capacity l.initial.commits
    → walk l.id l.key (from (m.records l.store) l.key l.next) (with_memory (numbers_of l.classes) (m.records l.store) (t.entries l.commits) s)
    ≡ walk l.id l.key (versions_down (m.records l.initial.store) l.key l.id []) (with_memory (numbers_of l.initial.classes) (m.records l.initial.store) (t.entries l.initial.commits) s))
    × (m.capacity l.store ≡ m.capacity l.initial.store)
    × (t.capacity l.commits ≡ t.capacity l.initial.commits)
    × Passed l.id l.key (m.records l.store) l.next
    × (height l.next ≤ suc l.id)

abbrev pub decreases-loop-next : goal.decreases-loop-next
decreases-loop-next g l = height l.next
