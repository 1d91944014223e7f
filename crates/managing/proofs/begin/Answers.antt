use Rattle.std.proofs.Common.{◌≡◌, ◌<◌, ◌≤◌, true, false, not, length, Err, sym, refl, ap, ap₂, ◌∙◌, arith}
use Rattle.std.proofs.lemmas.Result.{err_from_is_err_and}
use Rattle.model.specs.declared.refusal.Refusal.TheVariants.{RowsFull}
use Rattle.model.specs.declared.call.Answer.TheVariants.{Number, Denied}
use Rattle.model.specs.Answers.{answer_of}
use Rattle.model.specs.Maps.{is_there, enter}
use Rattle.manager.specs.Conflicts.{conflicts_of, entries_at}
use Rattle.manager.specs.Meaning.{Numbers, numbers, seat_at, seats}
use Rattle.manager.proofs.Seats.{look_taken, look_vacant}
use Rattle.manager.proofs.Taking.{step_is, outcome, step_ok, step_err, advanced_seats}
use Rattle.engine.specs.Transactions.{rows_of, places}
use Rattle.engine.proofs.Agreement.{same, same_sizes}
use Rattle.engine.proofs.RowTables.{put_room}
use Rattle.managing.proofs.Exits.{begin_above, begin_vacant, begin_full, begin_denied, begin_done}
use Rattle.managing.proofs.begin.Goals as goal

pub returns-then-seat-gt1 : goal.returns-then-seat-gt1
returns-then-seat-gt1 g c = sym (begin_above _ c.args.seat c.if-seat-gt1.true)

pub returns-then-is_vacant : goal.returns-then-is_vacant
returns-then-is_vacant g c =
    let p = numbers c.args.engine.now.managers in
    let t : is_there (seat_at c.args.seat p) ≡ false = sym c.is_vacant.ensures ∙ ap not c.if-is_vacant.true in
    sym (begin_vacant _ c.args.seat c.if-seat-gt1.false (look_vacant c.args.seat p (conflicts_of c.args.conflicts.now) c.if-seat-gt1.false t))

pub returns-then-used-capacity : goal.returns-then-used-capacity
returns-then-used-capacity g c =
    let p = numbers c.args.engine.now.managers in
    let t : is_there (seat_at c.args.seat p) ≡ true = sym c.is_vacant.ensures ∙ ap not c.if-is_vacant.false in
    let f : places c.args.rows.now ≤ length (rows_of c.args.rows.now) = omega arith in
    same _ _ _ _ refl refl refl refl refl refl refl refl refl refl (ap (λ n. Denied (RowsFull n)) c.len-used.ensures)
    ∙ sym (begin_full _ c.args.seat _ c.if-seat-gt1.false (look_taken c.args.seat p (conflicts_of c.args.conflicts.now) c.if-seat-gt1.false t) f)

pub returns-in_err-id : goal.returns-in_err-id
returns-in_err-id g c =
    let p = numbers c.args.engine.now.managers in
    let k = conflicts_of c.args.conflicts.now in
    let a = entries_at c.args.seat k in
    let w = c.in_err-id.field-0.0 in
    let e = err_from_is_err_and c.from_residual.result c.from_residual.ensures.1 in
    let t : is_there (seat_at c.args.seat p) ≡ true = sym c.is_vacant.ensures ∙ ap not c.if-is_vacant.false in
    let f : length (rows_of c.args.rows.now) < places c.args.rows.now = omega arith in
    let s = step_err c.args.seat p w _ c.in_err-id.ensures in
    same _ _ _ _ (ap (λ (q : Numbers). q.cell) s) refl refl refl (ap (λ (q : Numbers). seats q k) s) (ap (λ (q : Numbers). q.charge) s) refl refl refl
    (same_sizes _ _ _ _ _ _ _ _ _ _ _ _ _ (ap (λ (q : Numbers). q.span) s) refl refl refl refl refl) (ap answer_of (e.1 ∙ ap Err e.2))
    ∙ sym (begin_denied _ c.args.seat _ c.if-seat-gt1.false (look_taken c.args.seat p k c.if-seat-gt1.false t) w f
    (step_is c.args.seat p a ∙ ap (outcome c.args.seat a) (sym c.in_err-id.ensures)))

pub returns : goal.returns
returns g c =
    let p = numbers c.args.engine.now.managers in
    let k = conflicts_of c.args.conflicts.now in
    let a = entries_at c.args.seat k in
    let r = rows_of c.args.rows.now in
    let t : is_there (seat_at c.args.seat p) ≡ true = sym c.is_vacant.ensures ∙ ap not c.if-is_vacant.false in
    let f : length r < places c.args.rows.now = omega arith in
    let m = step_ok c.args.seat p c.in_ok-id.id _ c.in_ok-id.ensures in
    same _ _ _ _ refl refl refl refl
    (advanced_seats c.args.seat _ m.e p _ k c.if-seat-gt1.false m.is)
    (ap (λ (q : Numbers). q.charge) m.is)
    (c.put.ensures.after ∙ (put_room _ _ _ _ f ∙ ap₂ (λ n x. enter n x r) (c.open.ensures.id ∙ m.number) c.open.ensures.open)) refl refl
    (same_sizes _ _ _ _ _ _ _ _ _ _ _ _ _ (ap (λ (q : Numbers). q.span) m.is) c.put.ensures.kept refl refl refl refl)
    (ap Number m.number)
    ∙ sym (begin_done _ c.args.seat _ c.if-seat-gt1.false (look_taken c.args.seat p k c.if-seat-gt1.false t) _ _ f
    (step_is c.args.seat p a ∙ ap (outcome c.args.seat a) (sym c.in_ok-id.ensures)))
