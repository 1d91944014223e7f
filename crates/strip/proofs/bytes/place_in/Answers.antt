use Rattle.std.proofs.Common.{◌+◌}
use Rattle.strip.proofs.Reading.{walk_finds, walk_goes_on}
use Rattle.strip.proofs.bytes.place_in.Goals as goal

pub returns-then-number_in-id-clause-place : goal.returns-then-number_in-id-clause-place
returns-then-number_in-id-clause-place c =
    let w = c.loop-first.invariant in
    let x = c.in-Some.ensures.cases in
    walk_finds c.args.body.now c.loop-first.rest.now c.in-Some.first.now c.in-Some.after.now c.args.id w.0 c.number_in.result w.1 x.0 x.1 x.2 c.number_in.ensures c.if-number_in-id.true

pub loop-first-preserved : goal.loop-first-preserved
loop-first-preserved c =
    let w = c.loop-first.invariant in
    let x = c.in-Some.ensures.cases in
    (w.0 + 1, walk_goes_on c.args.body.now c.loop-first.rest.now c.in-Some.first.now c.in-Some.after.now c.args.id w.0 c.number_in.result w.1 x.0 x.1 x.2 c.number_in.ensures c.if-number_in-id.false)
