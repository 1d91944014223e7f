use Rattle.std.proofs.Common.{sym, ap}
use Rattle.model.specs.Maps.{is_there}
use Rattle.version_store.proofs.Lookups.{drop_none}
use Rattle.shelf.specs.Meaning.{shelved}
use Rattle.shelf.proofs.Searches.{hit_there, miss_none}
use Rattle.shelf.proofs.Shelves.{ascending, dropped}
use Rattle.shelf.proofs.store.ShelfVersionStore.drop_record.Goals as goal

pub returns-in_default-clause-answer : goal.returns-in_default-clause-answer
returns-in_default-clause-answer g c = sym (ap is_there (miss_none c.args.key c.args.version _ (shelved c.args.self.now) c.in_default.ensures))

pub returns-in_default-clause-after : goal.returns-in_default-clause-after
returns-in_default-clause-after g c = sym (drop_none c.args.key c.args.version (shelved c.args.self.now) (miss_none c.args.key c.args.version _ (shelved c.args.self.now) c.in_default.ensures))

pub invariant_of-self : goal.invariant_of-self
invariant_of-self g c = (dropped c.args.self.now c.args.key c.args.version c.in-Ok.position c.rotate_left.new.self c.in-Ok.ensures c.rotate_left.ensures.permutation c.rotate_left.ensures.after).1

pub returns-clause-answer : goal.returns-clause-answer
returns-clause-answer g c = hit_there c.args.key c.args.version c.in-Ok.position (shelved c.args.self.now) (ascending c.args.self.now) c.in-Ok.ensures

pub returns-clause-after : goal.returns-clause-after
returns-clause-after g c = (dropped c.args.self.now c.args.key c.args.version c.in-Ok.position c.rotate_left.new.self c.in-Ok.ensures c.rotate_left.ensures.permutation c.rotate_left.ensures.after).0
