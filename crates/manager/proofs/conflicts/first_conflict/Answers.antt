use Rattle.std.proofs.Common.{◌∙◌, rules, tests, sym}
use Rattle.std.proofs.lemmas.Iterator.{YieldsList-from_slice}
use Rattle.std.proofs.lemmas.Iterator.Adapters.{option_map_id}
use Rattle.std.proofs.lemmas.Iterator.Consumers.{YieldsList-from_copied}
use Rattle.std.proofs.lemmas.Iterator.Search.{find_from_yields_List}
use Rattle.table.specs.Meaning.{entries}
use Rattle.manager.proofs.Forgetting.{first_is_find}
use Rattle.manager.proofs.conflicts.first_conflict.Goals as goal

pub returns : goal.returns
returns c =
    first_is_find c.args.id (entries c.args.conflicts.now) c.args.keys.now
    ∙ (sym
    (find_from_yields_List _ _ _ c.find.result c.find.ensures.ran (YieldsList-from_copied (YieldsList-from_slice c.args.keys.now cc)) (λ x b q k. search (rules, tests)))
    ∙ option_map_id c.find.result)
