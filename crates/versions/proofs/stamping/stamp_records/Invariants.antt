use Rattle.std.proofs.Common.{◌≡◌, drop}
use Rattle.model.specs.State.{State}
use Rattle.model.specs.Stamping.{stamp_records}
use Rattle.versions.specs.Meaning.{numbers_of, with_versions}
use Rattle.versions.proofs.stamping.stamp_records.Given as goal

abbrev pub invariant-loop-key : goal.invariant-loop-key
invariant-loop-key g l =
    let m = g.S.VersionStore in
    ((s : State g.row.S-Value.Denot) → stamp_records l.version l.number (drop l.key-index l.keys) (with_versions (numbers_of l.classes) (m.records l.store) s)
    ≡ stamp_records l.version l.number l.keys (with_versions (numbers_of l.initial.classes) (m.records l.initial.store) s))
    × (m.capacity l.store ≡ m.capacity l.initial.store)
