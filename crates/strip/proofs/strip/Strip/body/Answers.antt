use Rattle.strip.proofs.Strips.{body_part}
use Rattle.strip.proofs.strip.Strip.body.Goals as goal

pub returns-clause-entries : goal.returns-clause-entries
returns-clause-entries c = body_part c.args.self.now c.offset_of.result c.offset_of.ensures
