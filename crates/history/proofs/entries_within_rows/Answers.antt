use Rattle.history.proofs.Consequences.{entries_within_rows}
use Rattle.history.proofs.entries_within_rows.Goals as goal

pub returns : goal.returns
returns g c = entries_within_rows
