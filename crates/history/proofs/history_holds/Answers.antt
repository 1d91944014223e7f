use Rattle.history.proofs.Theorem.{history}
use Rattle.history.proofs.history_holds.Goals as goal

pub returns : goal.returns
returns g c = history
