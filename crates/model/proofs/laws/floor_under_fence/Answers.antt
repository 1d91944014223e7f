use Rattle.model.proofs.Rising.{floor_under_fence}
use Rattle.model.proofs.laws.floor_under_fence.Goals as goal

pub returns : goal.returns
returns g c = floor_under_fence
