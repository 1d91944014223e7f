use Rattle.std.proofs.Common.{refl, rules}
use Rattle.std.proofs.lemmas.List.{length-set}
use Rattle.chains.proofs.Calling.{put_replaced, put_added, put_refused}
use Rattle.chains.proofs.Freeing.{some_free}
use Rattle.chains.proofs.Relinking.{replace_sound, replace_means, link_sound, link_means}
use Rattle.chains.proofs.store.ChainsVersionStore.put.Goals as goal

pub invariant_of-self : goal.invariant_of-self
invariant_of-self g c = record { sound = replace_sound c.index-self-spot.result _ c.args.self.now.sound c.in-Ok.ensures.standing refl refl }

pub returns-in-Ok-clause-after : goal.returns-in-Ok-clause-after
returns-in-Ok-clause-after g c = put_replaced c.args.self.now.sound c.args.item.now c.in-Ok.ensures.standing (replace_means c.index-self-spot.result _ c.args.self.now.sound c.in-Ok.ensures.standing refl refl)

pub returns-in_default-clause-after : goal.returns-in_default-clause-after
returns-in_default-clause-after g c = put_refused c.args.self.now.sound c.args.item.now c.in-Err.ensures c.in_default.is

pub offset_bounds-nodes-at : goal.offset_bounds-nodes-at
offset_bounds-nodes-at g c = let s = c.args.self.now.sound.freed in let l = s.inside 0 c.in-Some.at (some_free s c.in-Some.at c.in-Some.is, c.in-Some.is) in search rules

pub bounds-nodes-at : goal.bounds-nodes-at
bounds-nodes-at g c = let s = c.args.self.now.sound.freed in (s.inside 0 c.in-Some.at (some_free s c.in-Some.at c.in-Some.is, c.in-Some.is)).0

pub redirect-requires-clause-inside : goal.redirect-requires-clause-inside
redirect-requires-clause-inside g c = λ i e. simp length-set (c.in-Err.ensures.walked.on i e).0

pub invariant_of-self-in-Err : goal.invariant_of-self-in-Err
invariant_of-self-in-Err g c = record { sound = link_sound _ c.index-nodes-at.result c.args.self.now.sound c.in-Err.ensures c.in-Some.is refl refl c.class_of-chain.ensures c.redirect.ensures }

pub returns-in-Some-clause-after : goal.returns-in-Some-clause-after
returns-in-Some-clause-after g c =
    let s = c.args.self.now.sound in
    put_added s c.args.item.now c.in-Err.ensures (some_free s.freed c.in-Some.at c.in-Some.is) (link_means _ c.index-nodes-at.result s c.in-Err.ensures c.in-Some.is refl refl c.class_of-chain.ensures c.redirect.ensures)
