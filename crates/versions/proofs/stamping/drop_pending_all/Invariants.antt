use Rattle.std.proofs.Common.{◌≡◌, ◌+◌, ◌≤◌, drop}
use Rattle.model.specs.Versions.{drop_pending_all, count_pending_all}
use Rattle.versions.proofs.stamping.drop_pending_all.Given as goal

abbrev pub invariant-loop-key : goal.invariant-loop-key
invariant-loop-key g l =
    let m = g.S.VersionStore in
    let ks = drop l.key-index l.keys in
    (l.dropped + count_pending_all l.version ks (m.records l.store) ≡ count_pending_all l.version l.keys (m.records l.initial.store))
    × (drop_pending_all l.version ks (m.records l.store) ≡ drop_pending_all l.version l.keys (m.records l.initial.store))
    × (m.capacity l.store ≡ m.capacity l.initial.store)
    × (l.dropped ≤ l.key-index)
