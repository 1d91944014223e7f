use Rattle.std.proofs.Common.{Some, sym, refl, ◌∙◌}
use Rattle.model.specs.Records.{record_of}
use Rattle.engine.proofs.Agreement.{same, same_sizes}
use Rattle.engine.proofs.Putting.{accepted, denied}
use Rattle.fast_calls.proofs.Exits.{fast_pending, fast_conflict, fast_spent, fast_full, fast_done}
use Rattle.fast_calls.proofs.fast_change.Goals as goal

pub returns-then-found : goal.returns-then-found
returns-then-found g c = sym (fast_pending _ c.args.key c.args.seen c.args.value (sym c.summary-found.ensures.pending ∙ c.if-found.true))

pub returns-then-is_above : goal.returns-then-is_above
returns-then-is_above g c =
    let e = sym c.summary-found.ensures.pending ∙ c.if-found.false in
    sym (fast_conflict _ c.args.key c.args.seen c.args.value e _ c.summary-found.ensures.greatest (sym c.is_above.ensures ∙ c.if-is_above.true))

pub returns-in_default : goal.returns-in_default
returns-in_default g c =
    let e = sym c.summary-found.ensures.pending ∙ c.if-found.false in
    sym (fast_spent _ c.args.key c.args.seen c.args.value e _ c.summary-found.ensures.greatest (sym c.is_above.ensures ∙ c.if-is_above.false) c.in_default.ensures)

pub returns-in_default-put : goal.returns-in_default-put
returns-in_default-put g c =
    let e = sym c.summary-found.ensures.pending ∙ c.if-found.false in
    let f = c.in-Some.number in
    let l = g.S.VersionStore.records c.args.store.now in
    let d = denied (g.S.VersionStore.capacity c.args.store.now) (record_of c.args.key f (Some f) c.args.value) l _ _ c.in_default-put.ensures.after in
    same _ _ _ _ refl refl refl refl refl refl refl d.1 refl (same_sizes _ _ _ _ _ _ _ _ _ _ _ _ _ refl refl refl refl c.put.ensures.kept refl) refl
    ∙ sym (fast_full _ c.args.key c.args.seen c.args.value e _ c.summary-found.ensures.greatest (sym c.is_above.ensures ∙ c.if-is_above.false) f c.in-Some.ensures d.0)

pub returns : goal.returns
returns g c =
    let e = sym c.summary-found.ensures.pending ∙ c.if-found.false in
    let f = c.in-Some.number in
    let l = g.S.VersionStore.records c.args.store.now in
    let d = accepted (g.S.VersionStore.capacity c.args.store.now) (record_of c.args.key f (Some f) c.args.value) l _ c.in-Ok.ensures.after in
    same _ _ _ _ refl refl refl c.raise.ensures refl refl refl d.1 refl (same_sizes _ _ _ _ _ _ _ _ _ _ _ _ _ refl refl refl refl c.put.ensures.kept refl) refl
    ∙ sym (fast_done _ c.args.key c.args.seen c.args.value e _ c.summary-found.ensures.greatest (sym c.is_above.ensures ∙ c.if-is_above.false) f c.in-Some.ensures d.0)
