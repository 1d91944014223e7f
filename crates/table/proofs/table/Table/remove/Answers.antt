use Rattle.std.proofs.Common.{sym, refl, ap}
use Rattle.model.specs.Maps.{is_there}
use Rattle.table.proofs.Outcomes.{look_missed, remove_missed, shrunk}
use Rattle.table.proofs.table.Table.remove.Goals as goal

pub returns-in_default : goal.returns-in_default
returns-in_default g c =
    let t = c.args.self.now in
    record { answer = sym (ap is_there (look_missed t c.args.tag _ c.in_default.ensures)); after = sym (remove_missed t c.args.tag _ c.in_default.ensures); rest = refl; kept = refl }

pub invariant_of-self : goal.invariant_of-self
invariant_of-self g c =
    let w = shrunk c.args.self.now c.copy_within.new.self c.args.tag c.in-Ok.p c.in-Ok.ensures c.copy_within.ensures.after in
    record { within = w.within; sorted = w.sorted }

pub returns : goal.returns
returns g c =
    let w = shrunk c.args.self.now c.copy_within.new.self c.args.tag c.in-Ok.p c.in-Ok.ensures c.copy_within.ensures.after in
    record { answer = w.answer; after = w.after; rest = w.rest; kept = w.kept }
