use Rattle.std.proofs.Common.{ℕ, ltb, List, length, Option, None, sym, refl, ap, ap₂, ◌∙◌}
use Rattle.model.specs.declared.call.Answer.TheVariants.{Number}
use Rattle.model.specs.Maps.{enter}
use Rattle.model.specs.Records.{record_of}
use Rattle.model.specs.Transactions.{transaction}
use Rattle.model.specs.KeyLists.{keys_in}
use Rattle.engine.specs.Transactions.{rows_of}
use Rattle.model.proofs.Adding.{key_added, key_refused}
use Rattle.engine.proofs.Agreement.{same, same_sizes}
use Rattle.engine.proofs.RowTables.{put_found}
use Rattle.engine.proofs.Putting.{accepted, denied}
use Rattle.writing.proofs.Exits.{write_no_row, write_wrong_phase, write_fenced, write_keys_full, write_conflict, write_store_full, write_done}
use Rattle.writing.proofs.write.Goals as goal

pub returns-in_default : goal.returns-in_default
returns-in_default g c = sym (write_no_row _ c.args.id c.args.key c.args.value c.in_default.ensures.row)

pub returns-in_default-phase : goal.returns-in_default-phase
returns-in_default-phase g c = sym (write_wrong_phase _ c.args.id c.args.key c.args.value _ _ _ c.in-Some.ensures.row c.in_default-phase.not-Open)

pub returns-then-id-engine : goal.returns-then-id-engine
returns-then-id-engine g c = sym (write_fenced _ c.args.id c.args.key c.args.value _ _ _ c.in-Some.ensures.row c.in-Open.is c.if-id-engine.true)

pub returns-in_default-add : goal.returns-in_default-add
returns-in_default-add g c =
    let f = key_refused c.args.key (keys_in c.in-Some.found.keys) _ _ c.in_default-add.ensures in
    sym (write_keys_full _ c.args.id c.args.key c.args.value _ _ _ c.in-Some.ensures.row c.in-Open.is c.if-id-engine.false f)

pub returns-then-is_above : goal.returns-then-is_above
returns-then-is_above g c =
    let f = key_added c.args.key (keys_in c.in-Some.found.keys) _ c.in-Ok.ensures in
    let a = ap (λ (p : ℕ × Option g.row.S-Value.Denot). ltb c.args.id p.0) (sym c.summary.ensures.greatest) ∙ (sym c.is_above.ensures ∙ c.if-is_above.true) in
    sym (write_conflict _ c.args.id c.args.key c.args.value _ _ _ c.in-Some.ensures.row c.in-Open.is c.if-id-engine.false f.0 a)

pub returns-in_default-put : goal.returns-in_default-put
returns-in_default-put g c =
    let f = key_added c.args.key (keys_in c.in-Some.found.keys) _ c.in-Ok.ensures in
    let a = ap (λ (p : ℕ × Option g.row.S-Value.Denot). ltb c.args.id p.0) (sym c.summary.ensures.greatest) ∙ (sym c.is_above.ensures ∙ c.if-is_above.false) in
    let d = denied (g.S.VersionStore.capacity c.args.store.now) (record_of c.args.key c.args.id None c.args.value) (g.S.VersionStore.records c.args.store.now) _ _ c.in_default-put.ensures.after in
    same _ _ _ _ refl refl refl refl refl refl refl d.1 refl (same_sizes _ _ _ _ _ _ _ _ _ _ _ _ _ refl refl refl refl c.put.ensures.kept refl) refl
    ∙ sym (write_store_full _ c.args.id c.args.key c.args.value _ _ _ c.in-Some.ensures.row c.in-Open.is c.if-id-engine.false f.0 a d.0)

pub returns : goal.returns
returns g c =
    let f = key_added c.args.key (keys_in c.in-Some.found.keys) _ c.in-Ok.ensures in
    let a = ap (λ (p : ℕ × Option g.row.S-Value.Denot). ltb c.args.id p.0) (sym c.summary.ensures.greatest) ∙ (sym c.is_above.ensures ∙ c.if-is_above.false) in
    let d = accepted (g.S.VersionStore.capacity c.args.store.now) (record_of c.args.key c.args.id None c.args.value) (g.S.VersionStore.records c.args.store.now) _ c.in-Ok-put.ensures.after in
    let r = rows_of c.args.rows.now in
    same _ _ _ _ refl refl refl refl refl refl
    (put_found _ _ _ _ _ _ _ c.put-2.ensures.after c.in-Some.ensures.id c.in-Some.ensures.row ∙ ap₂ (λ p ks. enter c.args.id (transaction p ks c.in-Some.found.stamped) r) c.in-Open.is f.1) d.1 refl
    (same_sizes _ _ _ _ _ _ _ _ _ _ _ _ _ refl c.put-2.ensures.kept refl refl c.put.ensures.kept refl) (ap (λ (ks : List ℕ). Number (length ks)) (c.as_slice.ensures ∙ f.1))
    ∙ sym (write_done _ c.args.id c.args.key c.args.value _ _ _ c.in-Some.ensures.row c.in-Open.is c.if-id-engine.false f.0 a d.0)
