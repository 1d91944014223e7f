use Rattle.database.proofs.Turns.{ran}
use Rattle.database.proofs.running.run.Goals as goal

pub returns : goal.returns
returns g c = ran _ _ _ _ _ _ _ _ c.if-answers-calls.false c.in_ok-engine.ensures.answer c.answer_all.ensures.answers c.answer_all.ensures.after
