use Rattle.std.proofs.Common.{ap, ◌∙◌}
use Rattle.table.specs.Meaning.{entries, capacity, insert_entries}
use Rattle.engine.specs.Transactions.{transactions}
use Rattle.engine.proofs.RowTables.{put_is}
use Rattle.engine.proofs.rows.Rows.put.Goals as goal

pub returns-clause-after : goal.returns-clause-after
returns-clause-after c =
    let t = c.args.self.now.table in
    let l = entries t in
    ap transactions (c.insert.ensures.after ∙ ap (λ r. insert_entries r c.args.row.id c.args.row l) c.insert.ensures.answer)
    ∙ put_is (capacity t) c.args.row.id c.args.row l
