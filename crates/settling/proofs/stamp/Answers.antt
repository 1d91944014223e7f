use Rattle.std.proofs.Common.{◌<◌, length, take, sym, refl, ap, ◌∙◌, arith, length-drop, length-take, ◌+◌}
use Rattle.model.specs.Maps.{enter}
use Rattle.model.specs.KeyLists.{keys_in}
use Rattle.model.specs.Transactions.{transaction}
use Rattle.engine.specs.Transactions.{rows_of}
use Rattle.engine.proofs.Agreement.{same, same_sizes}
use Rattle.engine.proofs.RowTables.{put_found}
use Rattle.settling.proofs.Exits.{stamp_no_row, stamp_phase, stamp_none, stamp_last, stamp_more}
use Rattle.settling.proofs.stamp.Goals as goal

pub returns-in_default : goal.returns-in_default
returns-in_default g c = sym (stamp_no_row _ c.args.id c.in_default.ensures.row)

pub returns-in_default-phase : goal.returns-in_default-phase
returns-in_default-phase g c = sym (stamp_phase _ c.args.id _ _ _ c.in-Some.ensures.row c.in_default-phase.not-Settled)

pub returns-then-left-eq0 : goal.returns-then-left-eq0
returns-then-left-eq0 g c =
    same _ _ _ _ refl refl refl refl refl refl c.remove.ensures.after refl c.drop_entry.ensures.dropped
    (same_sizes _ _ _ _ _ _ _ _ _ _ _ _ _ refl c.remove.ensures.kept refl refl refl c.drop_entry.ensures.kept) refl
    ∙ sym (stamp_none _ c.args.id _ _ _ c.in-Some.ensures.row _ c.in-Settled.is _ c.keys_left-keys.ensures c.if-left-eq0.true)

pub returns-then-left-eq1 : goal.returns-then-left-eq1
returns-then-left-eq1 g c =
    same _ _ _ _ refl refl refl c.stamp_record.ensures.raised refl refl c.remove-then-left-eq1.ensures.after c.stamp_record.ensures.marked c.drop_entry-then-left-eq1.ensures.dropped
    (same_sizes _ _ _ _ _ _ _ _ _ _ _ _ _ refl c.remove-then-left-eq1.ensures.kept refl refl c.stamp_record.ensures.kept c.drop_entry-then-left-eq1.ensures.kept) refl
    ∙ sym (stamp_last _ c.args.id _ _ _ c.in-Some.ensures.row _ c.in-Settled.is _ c.keys_left-keys.ensures c.if-left-eq1.true)

pub overflow_add-stamped : goal.overflow_add-stamped
overflow_add-stamped g c =
    let held = c.in-Some.row.keys in
    let w = held.within in
    let k = ap length c.keys_left-keys.ensures in
    let a = length-drop c.in-Some.row.stamped (take held.len held.places) in
    let b = length-take held.len held.places in
    omega (arith, c.if-left-eq0.false)

pub returns : goal.returns
returns g c =
    let z : 1 < length c.keys_left-keys.result.now = omega (arith, c.if-left-eq0.false, c.if-left-eq1.false) in
    same _ _ _ _ refl refl refl c.stamp_record.ensures.raised refl refl
    (put_found _ _ _ _ _ _ _ c.put.ensures.after c.in-Some.ensures.id c.in-Some.ensures.row ∙ ap (λ p. enter c.args.id (transaction p (keys_in c.in-Some.row.keys) (c.in-Some.row.stamped + 1)) (rows_of c.args.rows.now)) c.in-Settled.is) c.stamp_record.ensures.marked refl
    (same_sizes _ _ _ _ _ _ _ _ _ _ _ _ _ refl c.put.ensures.kept refl refl c.stamp_record.ensures.kept refl) refl
    ∙ sym (stamp_more _ c.args.id _ _ _ c.in-Some.ensures.row _ c.in-Settled.is _ c.keys_left-keys.ensures z)
