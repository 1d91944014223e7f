use Rattle.model.proofs.Denying.{denials}
use Rattle.model.proofs.laws.denied_unchanged.Goals as goal

pub returns : goal.returns
returns g c = denials
