use Rattle.std.proofs.Common.{sym, refl, ap, ◌∙◌}
use Rattle.model.specs.declared.call.Answer.TheVariants.{Number}
use Rattle.manager.specs.Conflicts.{conflicts_of}
use Rattle.manager.specs.Meaning.{numbers}
use Rattle.manager.proofs.Seats.{charge_is}
use Rattle.engine.proofs.Agreement.{same}
use Rattle.managing.proofs.Exits.{raise_denied, raise_done}
use Rattle.managing.proofs.raise.Goals as goal

pub returns-then-clock_in_charge-floor : goal.returns-then-clock_in_charge-floor
returns-then-clock_in_charge-floor g c =
    let e = charge_is (numbers c.args.engine.now.managers) (conflicts_of c.args.tables.now.conflicts) ∙ sym c.clock_in_charge.ensures.is in
    sym (raise_denied _ c.args.floor _ e c.if-clock_in_charge-floor.true)

pub returns : goal.returns
returns g c =
    let e = charge_is (numbers c.args.engine.now.managers) (conflicts_of c.args.tables.now.conflicts) ∙ sym c.clock_in_charge.ensures.is in
    same _ _ _ _ refl c.max-engine-2.ensures c.max-engine.ensures refl refl refl refl refl refl refl (ap Number c.max-engine.ensures)
    ∙ sym (raise_done _ c.args.floor _ e c.if-clock_in_charge-floor.false)
