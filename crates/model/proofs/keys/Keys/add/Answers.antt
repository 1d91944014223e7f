use Rattle.std.proofs.Common.{rules, ◌≡◌, length, arith, ◌∙◌}
use Rattle.model.proofs.Adding.{contains_is, add_held, add_new}
use Rattle.model.proofs.keys.Keys.add.Goals as goal

pub returns-then-contains : goal.returns-then-contains
returns-then-contains c =
    let m = contains_is c.args.key _ _ _ c.as_slice.ensures c.contains.ensures.value ∙ c.if-contains.true in
    add_held c.args.key c.args.self.now.places c.args.self.now.len m

pub returns : goal.returns
returns c =
    let n : length c.args.self.now.places ≡ 16 = search rules in
    let m = contains_is c.args.key _ _ _ c.as_slice.ensures c.contains.ensures.value ∙ c.if-contains.false in
    let w = c.args.self.now.within in
    add_new c.args.key c.args.self.now.places c.args.self.now.len n m (omega (arith, c.if-self-eq-MOST_KEYS.false))
