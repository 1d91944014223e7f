use Rattle.std.proofs.Common.{rules, option_map, ap, ◌∙◌, sym}
use Rattle.std.proofs.lemmas.Iterator.{YieldsList-from_slice}
use Rattle.std.proofs.lemmas.Iterator.Consumers.{YieldsList-from_copied}
use Rattle.table.specs.Meaning.{held}
use Rattle.manager.specs.Memory.{pair_of}
use Rattle.manager.proofs.Least.{least_is, least_from_reduces}
use Rattle.manager.proofs.memory.ConflictMemory.least_entry.Goals as goal

pub returns : goal.returns
returns c =
    least_is (held c.args.self.now.table.now)
    ∙ ap (option_map pair_of) (sym (least_from_reduces _ _ (λ x y e h k. search rules) _ _ c.reduce.ensures.ran (YieldsList-from_copied (YieldsList-from_slice (held c.args.self.now.table.now) cc))))
