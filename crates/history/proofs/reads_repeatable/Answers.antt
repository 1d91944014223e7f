use Rattle.history.proofs.Consequences.{repeatable}
use Rattle.history.proofs.reads_repeatable.Goals as goal

pub returns : goal.returns
returns g c = repeatable
