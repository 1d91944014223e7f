use Rattle.fast_calls.proofs.Exits.{fast_read_done}
use Rattle.fast_calls.proofs.fast_read.Goals as goal

pub returns : goal.returns
returns g c = fast_read_done _ c.args.key _ c.summary.ensures.greatest
