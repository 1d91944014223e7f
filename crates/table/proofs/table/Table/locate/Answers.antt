use Rattle.std.proofs.Common.{rules}
use Rattle.table.proofs.Places.{searched}
use Rattle.table.proofs.table.Table.locate.Goals as goal

pub returns-clause-position : goal.returns-clause-position
returns-clause-position g c = searched g.E.Tagged.tag _ _ c.args.tag _ c.binary_search_by_key.ensures.position (λ a r s' k. search rules) c.as_slice.ensures
