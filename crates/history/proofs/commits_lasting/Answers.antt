use Rattle.history.proofs.Consequences.{lasting}
use Rattle.history.proofs.commits_lasting.Goals as goal

pub returns : goal.returns
returns g c = lasting
