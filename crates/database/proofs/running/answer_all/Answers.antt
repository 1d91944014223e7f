use Rattle.std.proofs.Common.{◌<◌, ◌≤◌, length, sym, refl, ap, ◌∙◌, arith}
use Rattle.std.proofs.lemmas.List.{take_all}
use Rattle.model.specs.After.{after}
use Rattle.database.specs.Running.{answers_to}
use Rattle.database.proofs.Turns.{state_more, answer_more}
use Rattle.database.proofs.running.answer_all.Goals as goal

pub loop-i-init : goal.loop-i-init
loop-i-init g c = (refl, refl)

pub loop-i-preserved : goal.loop-i-preserved
loop-i-preserved g c =
    let i = c.loop-i.i in
    let calls = c.args.calls.now in
    let m : i < length c.loop-i.answers = omega (arith, c.loop-i.auto.answers, c.requires, c.loop-i-test.true) in (
      state_more _ _ _ _ calls c.loop-i.answers i c.index-calls-i.result c.loop-i-test.true c.index-calls-i.is c.loop-i.invariant.0 c.call.ensures,
      answer_more _ _ _ _ calls c.loop-i.answers i c.index-calls-i.result c.loop-i-test.true c.index-calls-i.is c.loop-i.invariant.0 c.call.ensures m c.loop-i.invariant.1,
    )

pub returns : goal.returns
returns g c =
    let calls = c.args.calls.now in
    let m : length c.loop-i.answers ≤ c.loop-i.i = omega (arith, c.loop-i.auto.answers, c.requires, c.loop-i-test.false) in
    let all = take_all c.loop-i.i calls c.loop-i-test.false in
    record {
      after = c.loop-i.invariant.0 ∙ ap (after _) all;
      answers = sym (take_all c.loop-i.i c.loop-i.answers m) ∙ (c.loop-i.invariant.1 ∙ ap (answers_to _) all);
    }
