use Rattle.std.proofs.Common.{◌≡◌, true, false, not, Err, sym, refl, ap, ◌∙◌}
use Rattle.std.proofs.lemmas.Result.{err_from_is_err_and}
use Rattle.model.specs.declared.words.Phase.TheVariants.{Validated}
use Rattle.model.specs.declared.call.Answer.TheVariants.{Number}
use Rattle.model.specs.Answers.{answer_of}
use Rattle.model.specs.KeyLists.{keys_in}
use Rattle.model.specs.Maps.{is_there, enter}
use Rattle.model.specs.Transactions.{transaction}
use Rattle.manager.specs.Conflicts.{Conflicts, conflicts_of, entries_at, places_at, with_entries}
use Rattle.manager.specs.Meaning.{Numbers, numbers, seat_at, seats}
use Rattle.manager.specs.Validation.{Both, validate_both}
use Rattle.manager.proofs.Seats.{look_taken, look_vacant, same_entries}
use Rattle.engine.specs.Transactions.{rows_of}
use Rattle.engine.proofs.Agreement.{same, same_sizes}
use Rattle.engine.proofs.RowTables.{put_found}
use Rattle.validating.proofs.Exits.{no_place, some_place, validate_above, validate_no_row, validate_phase, validate_fenced, validate_vacant, validate_there}
use Rattle.validating.proofs.ManagersPart.{refused, accepted, table_after, seats_after}
use Rattle.validating.proofs.validate.Goals as goal

same_seats : (p p' : Numbers) (c c' : Conflicts) → p ≡ p' → c ≡ c' → seats p c ≡ seats p' c'
same_seats p p' c c' u v = rw (u, v) refl

pub returns-then-places-eq0 : goal.returns-then-places-eq0
returns-then-places-eq0 g c = sym (no_place _ c.args.id c.args.seat (sym c.places.ensures ∙ c.if-places-eq0.true))

pub returns-then-seat-gt1 : goal.returns-then-seat-gt1
returns-then-seat-gt1 g c = sym (some_place _ c.args.id c.args.seat (λ e. c.if-places-eq0.false (c.places.ensures ∙ e)) ∙ validate_above _ c.args.id c.args.seat c.if-seat-gt1.true)

pub returns-in_default : goal.returns-in_default
returns-in_default g c =
    sym (some_place _ c.args.id c.args.seat (λ e. c.if-places-eq0.false (c.places.ensures ∙ e)) ∙ validate_no_row _ c.args.id c.args.seat c.if-seat-gt1.false c.in_default.ensures.row)

pub returns-in_default-phase : goal.returns-in_default-phase
returns-in_default-phase g c =
    sym (some_place _ c.args.id c.args.seat (λ e. c.if-places-eq0.false (c.places.ensures ∙ e)) ∙ validate_phase _ c.args.id c.args.seat c.if-seat-gt1.false _ _ _ c.in-Some.ensures.row c.in_default-phase.not-Open)

pub returns-then-id-engine : goal.returns-then-id-engine
returns-then-id-engine g c =
    sym (some_place _ c.args.id c.args.seat (λ e. c.if-places-eq0.false (c.places.ensures ∙ e)) ∙ validate_fenced _ c.args.id c.args.seat c.if-seat-gt1.false _ _ _ c.in-Some.ensures.row c.in-Open.is c.if-id-engine.true)

pub returns-then-is_vacant : goal.returns-then-is_vacant
returns-then-is_vacant g c =
    let p = numbers c.args.engine.now.managers in
    let t : is_there (seat_at c.args.seat p) ≡ false = sym c.is_vacant.ensures ∙ ap not c.if-is_vacant.true in
    sym (some_place _ c.args.id c.args.seat (λ e. c.if-places-eq0.false (c.places.ensures ∙ e))
    ∙ validate_vacant _ c.args.id c.args.seat c.if-seat-gt1.false _ _ _ c.in-Some.ensures.row c.in-Open.is c.if-id-engine.false
    (look_vacant c.args.seat p (conflicts_of c.args.tables.now.conflicts) c.if-seat-gt1.false t))

pub returns-in_err-number : goal.returns-in_err-number
returns-in_err-number g c =
    let p = numbers c.args.engine.now.managers in
    let q = c.args.seat in
    let id = c.args.id in
    let k = conflicts_of c.args.tables.now.conflicts in
    let row = c.in-Some.row in
    let w = c.in_err-number.field-0.0 in
    let x = err_from_is_err_and c.from_residual.result c.from_residual.ensures.1 in
    let t : is_there (seat_at q p) ≡ true = sym c.is_vacant.ensures ∙ ap not c.if-is_vacant.false in
    let nz : places_at q k ≡ 0 → ⊥ = λ e. c.if-places-eq0.false (c.places.ensures ∙ e) in
    let h = c.in_err-number.ensures ∙ ap (λ l. validate_both q id l p k) c.as_slice.ensures in
    let d = refused _ id q (keys_in row.keys) row.stamped p (entries_at q k) (places_at q k) refl refl refl nz w (sym (ap (λ (o : Both). o.answer) h)) in
    let eP = ap (λ (o : Both). o.after) h ∙ d.after in
    let eK = ap (λ (o : Both). o.tables) h ∙ (ap (λ l. with_entries q l k) d.left ∙ same_entries q k) in
    same _ _ _ _ (ap (λ (m : Numbers). m.cell) eP) refl refl refl (same_seats _ _ _ _ eP eK) (ap (λ (m : Numbers). m.charge) eP) refl refl refl
    (same_sizes _ _ _ _ _ _ _ _ _ _ _ _ _ (ap (λ (m : Numbers). m.span) eP) refl (ap (λ (o : Conflicts). o.places0) eK) (ap (λ (o : Conflicts). o.places1) eK) refl refl) (ap answer_of (x.1 ∙ ap Err x.2))
    ∙ sym (some_place _ id q nz
    ∙ (validate_there _ id q c.if-seat-gt1.false _ _ _ c.in-Some.ensures.row c.in-Open.is c.if-id-engine.false _ (look_taken q p k c.if-seat-gt1.false t) ∙ d.exit))

pub returns : goal.returns
returns g c =
    let p = numbers c.args.engine.now.managers in
    let q = c.args.seat in
    let id = c.args.id in
    let k = conflicts_of c.args.tables.now.conflicts in
    let row = c.in-Some.row in
    let ks = keys_in row.keys in
    let t : is_there (seat_at q p) ≡ true = sym c.is_vacant.ensures ∙ ap not c.if-is_vacant.false in
    let nz : places_at q k ≡ 0 → ⊥ = λ e. c.if-places-eq0.false (c.places.ensures ∙ e) in
    let h = c.in_ok-number.ensures ∙ ap (λ l. validate_both q id l p k) c.as_slice.ensures in
    let d = accepted _ id q ks row.stamped p (entries_at q k) (places_at q k) refl refl refl nz c.in_ok-number.number (sym (ap (λ (o : Both). o.answer) h)) in
    let m = table_after q (places_at q k) ks p (entries_at q k) in
    let eP = ap (λ (o : Both). o.after) h ∙ d.after in
    let eK = ap (λ (o : Both). o.tables) h ∙ ap (λ l. with_entries q l k) d.left in
    let p' = numbers c.validate.new.self in
    same _ _ _ _ (ap (λ (m : Numbers). m.cell) eP) refl refl refl
    (same_seats p' p' _ _ refl eK ∙ seats_after q d.cell d.end m.low p p' k m.conflicts c.if-seat-gt1.false eP)
    (ap (λ (m : Numbers). m.charge) eP)
    (put_found _ _ _ _ _ _ _ c.put.ensures.after c.in-Some.ensures.id c.in-Some.ensures.row ∙ ap (λ z. enter id (transaction (Validated z) ks row.stamped) (rows_of c.args.tables.now.rows)) d.number) refl refl
    (same_sizes _ _ _ _ _ _ _ _ _ _ _ _ _ (ap (λ (m : Numbers). m.span) eP) c.put.ensures.kept (ap (λ (o : Conflicts). o.places0) eK) (ap (λ (o : Conflicts). o.places1) eK) refl refl) (ap Number d.number)
    ∙ sym (some_place _ id q nz
    ∙ (validate_there _ id q c.if-seat-gt1.false _ _ _ c.in-Some.ensures.row c.in-Open.is c.if-id-engine.false _ (look_taken q p k c.if-seat-gt1.false t) ∙ d.exit))
