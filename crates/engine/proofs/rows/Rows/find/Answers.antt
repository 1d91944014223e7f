use Rattle.std.proofs.Common.{◌≡◌, ℕ, List, map, Option, Some, None, IfSome, ap, ◌∙◌}
use Rattle.model.specs.Maps.{look_up}
use Rattle.table.specs.Meaning.{entries, held}
use Rattle.engine.specs.declared.row.Row.{Row}
use Rattle.engine.specs.Transactions.{transaction_in}
use Rattle.engine.proofs.RowTables.{look_transactions, found_id}
use Rattle.engine.proofs.rows.Rows.find.Goals as goal

has_id : (rs : List Row) (q : ℕ) (o : Option Row) → look_up (map (λ (x : Row). (x.id, x)) rs) q ≡ o → IfSome o (λ r. r.id ≡ q)
has_id rs q None e = tt
has_id rs q (Some r) e = found_id rs q r e

pub returns : goal.returns
returns c =
    let t = c.args.self.now.table in
    record {
      row = look_transactions (entries t) c.args.id ∙ ap transaction_in c.look_up.ensures;
      id = has_id (held t) c.args.id c.look_up.result c.look_up.ensures;
    }
