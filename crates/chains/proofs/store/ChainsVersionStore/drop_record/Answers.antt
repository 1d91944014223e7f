use Rattle.std.proofs.Common.{refl, sym}
use Rattle.chains.proofs.Calling.{standing_has, absent_has, drop_absent}
use Rattle.chains.proofs.Relinking.{unlink_sound, unlink_means}
use Rattle.chains.proofs.store.ChainsVersionStore.drop_record.Goals as goal

pub invariant_of-self : goal.invariant_of-self
invariant_of-self g c = record { sound = unlink_sound c.index-nodes-spot.result _ c.args.self.now.sound c.in-Ok.ensures c.class_of.ensures c.redirect.ensures refl refl }

pub returns-in-Ok-clause-answer : goal.returns-in-Ok-clause-answer
returns-in-Ok-clause-answer g c = sym (standing_has c.args.self.now.sound c.in-Ok.ensures.standing)

pub returns-in-Ok-clause-after : goal.returns-in-Ok-clause-after
returns-in-Ok-clause-after g c = unlink_means c.index-nodes-spot.result _ c.args.self.now.sound c.in-Ok.ensures c.class_of.ensures c.redirect.ensures refl refl

pub returns-in-Err-clause-answer : goal.returns-in-Err-clause-answer
returns-in-Err-clause-answer g c = sym (absent_has c.args.self.now.sound c.in-Err.ensures)

pub returns-in-Err-clause-after : goal.returns-in-Err-clause-after
returns-in-Err-clause-after g c = drop_absent c.args.self.now.sound c.in-Err.ensures
