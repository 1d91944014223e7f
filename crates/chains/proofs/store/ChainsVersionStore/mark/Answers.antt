use Rattle.std.proofs.Common.{sym, refl}
use Rattle.chains.proofs.Calling.{standing_has, absent_has, mark_sound, mark_means, mark_absent}
use Rattle.chains.proofs.store.ChainsVersionStore.mark.Goals as goal

pub invariant_of-self : goal.invariant_of-self
invariant_of-self g c = record { sound = mark_sound c.args.self.now.sound c.args.number c.index-nodes-spot.result _ c.in-Ok.ensures.standing c.in-Some.is refl refl }

pub returns-in-Err-clause-answer : goal.returns-in-Err-clause-answer
returns-in-Err-clause-answer g c = sym (absent_has c.args.self.now.sound c.in-Err.ensures)

pub returns-in-Err-clause-after : goal.returns-in-Err-clause-after
returns-in-Err-clause-after g c = mark_absent c.args.self.now.sound c.args.number c.in-Err.ensures

pub returns-in-Some-clause-answer : goal.returns-in-Some-clause-answer
returns-in-Some-clause-answer g c = sym (standing_has c.args.self.now.sound c.in-Ok.ensures.standing)

pub returns-in-Some-clause-after : goal.returns-in-Some-clause-after
returns-in-Some-clause-after g c = mark_means c.args.self.now.sound c.args.number c.index-nodes-spot.result _ c.in-Ok.ensures.standing c.in-Some.is refl refl
