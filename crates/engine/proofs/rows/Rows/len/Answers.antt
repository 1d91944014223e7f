use Rattle.std.proofs.Common.{sym, ◌∙◌}
use Rattle.table.specs.Meaning.{entries}
use Rattle.engine.proofs.RowTables.{length_transactions}
use Rattle.engine.proofs.rows.Rows.len.Goals as goal

pub returns : goal.returns
returns c = c.len.ensures ∙ sym (length_transactions (entries c.args.self.now.table))
