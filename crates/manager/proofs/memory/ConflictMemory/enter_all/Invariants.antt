use Rattle.std.proofs.Common.{◌≡◌, take}
use Rattle.std.specs.List.{fold}
use Rattle.model.specs.Managers.{enter_conflict}
use Rattle.table.specs.Meaning.{capacity}
use Rattle.manager.specs.Memory.{memory}
use Rattle.manager.proofs.memory.ConflictMemory.enter_all.Given as goal

abbrev pub invariant-loop-key : goal.invariant-loop-key
invariant-loop-key l = record {
  entered : memory l.self ≡ fold (λ m k. enter_conflict (capacity l.fn.self.table.now) l.number k m) (memory l.fn.self) (take l.key-index l.keys);
  kept : capacity l.self.table.now ≡ capacity l.fn.self.table.now;
  same : l.self.table.ghost_name ≡ l.fn.self.table.ghost_name;
}
