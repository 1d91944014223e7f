use Rattle.std.proofs.Common.{ap, ◌∙◌}
use Rattle.table.specs.Meaning.{entries}
use Rattle.engine.specs.Transactions.{transactions}
use Rattle.engine.proofs.RowTables.{remove_transactions}
use Rattle.engine.proofs.rows.Rows.remove.Goals as goal

pub returns-clause-after : goal.returns-clause-after
returns-clause-after c = ap transactions c.remove.ensures.after ∙ remove_transactions c.args.id (entries c.args.self.now.table)
