use Rattle.model.proofs.Rising.{never_fall}
use Rattle.model.proofs.laws.never_fall.Goals as goal

pub returns : goal.returns
returns g c = never_fall
