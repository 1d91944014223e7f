use Rattle.std.proofs.Common.{Ok, Some, refl, ap, sym, ◌∙◌, arith}
use Rattle.table.proofs.Outcomes.{wrote, grew, full}
use Rattle.table.proofs.table.Table.insert.Goals as goal

pub invariant_of-self : goal.invariant_of-self
invariant_of-self g c =
    let w = wrote c.args.self.now c.args.e c.index-self-p.result c.tag.result c.in-Ok.p c.tag.ensures c.in-Ok.ensures c.index-self-p.is in
    record { within = w.within; sorted = w.sorted }

pub returns-in-Ok : goal.returns-in-Ok
returns-in-Ok g c =
    let w = wrote c.args.self.now c.args.e c.index-self-p.result c.tag.result c.in-Ok.p c.tag.ensures c.in-Ok.ensures c.index-self-p.is in
    record { answer = ap (λ v. Ok (Some v)) (c.value.ensures ∙ ap g.E.Tagged.value (sym c.index-self-p.is)) ∙ w.answer; after = w.after; rest = w.rest; kept = w.kept }

pub returns-then-self : goal.returns-then-self
returns-then-self g c = record { answer = full c.args.self.now c.args.e c.tag.result c.in-Err.p c.if-self.true c.tag.ensures c.in-Err.ensures; after = refl; rest = refl; kept = refl }

pub invariant_of-self-in-Err : goal.invariant_of-self-in-Err
invariant_of-self-in-Err g c =
    let w = grew c.args.self.now c.copy_within.new.self c.args.e c.tag.result c.in-Err.p (omega arith) c.tag.ensures c.in-Err.ensures c.copy_within.ensures.after in
    record { within = w.within; sorted = w.sorted }

pub returns-else-self : goal.returns-else-self
returns-else-self g c =
    let w = grew c.args.self.now c.copy_within.new.self c.args.e c.tag.result c.in-Err.p (omega arith) c.tag.ensures c.in-Err.ensures c.copy_within.ensures.after in
    record { answer = w.answer; after = w.after; rest = w.rest; kept = w.kept }
