use Rattle.history.proofs.Consequences.{numbers_once}
use Rattle.history.proofs.numbers_used_once.Goals as goal

pub returns : goal.returns
returns g c = numbers_once
