use Rattle.std.proofs.Common.{set, ap, refl, ◌∙◌}
use Rattle.model.specs.Classes.{class_number, raise_class}
use Rattle.versions.proofs.classes.ClassNumbers.raise.Goals as goal

pub returns : goal.returns
unfolding raise_class class_number
returns c = ap (set c.args.self.now.numbers c.class_of-class.result) c.max.ensures ∙ rw (c.class_of-class.ensures) refl
