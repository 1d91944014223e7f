use Rattle.std.proofs.Common.{sym, ap, ◌∙◌}
use Rattle.strip.specs.Bodies.{place_of}
use Rattle.strip.proofs.Strips.{read_part}
use Rattle.strip.proofs.strip.Strip.find.Goals as goal

pub returns-clause-place : goal.returns-clause-place
returns-clause-place c = ap (λ es. place_of es c.args.id) (sym (read_part c.args.self.now c.body.result.now c.body.ensures.entries)) ∙ c.place_in.ensures.place
