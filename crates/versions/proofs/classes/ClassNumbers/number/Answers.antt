use Rattle.std.proofs.Common.{slice_index, ap}
use Rattle.model.specs.Classes.{class_number}
use Rattle.versions.proofs.classes.ClassNumbers.number.Goals as goal

pub returns : goal.returns
unfolding class_number
returns c = ap (slice_index c.args.self.now.numbers) c.class_of.ensures
