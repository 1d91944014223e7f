use Rattle.std.proofs.Common.{◌≡◌, ℕ, Bool, [], length, None, Ok, sym, refl, ap, ◌∙◌}
use Rattle.std.proofs.lemmas.List.{nil_from_length}
use Rattle.model.specs.declared.call.Opening.{Opening}
use Rattle.model.specs.declared.call.Answer.{Answer}
use Rattle.model.specs.declared.call.Answer.TheVariants.{Number}
use Rattle.model.specs.Records.{count}
use Rattle.model.specs.State.{State, fresh}
use Rattle.manager.specs.Conflicts.{Conflicts, conflicts_of, with_entries}
use Rattle.manager.specs.Meaning.{Numbers, vacant, numbers, seats}
use Rattle.engine.specs.Meaning.{opening, places_fit}
use Rattle.engine.proofs.Agreement.{same, same_sizes}
use Rattle.engine.proofs.Limits.{none_from, true_from, some_from, outside_steps, outside_places, outside_records, outside_entries, inside}
use Rattle.engine.proofs.opening.open.Goals as goal

-- what two new seats hold
abbrev begun : ℕ → ℕ → Numbers
begun f n = record { cell = f; span = n; seat0 = vacant; seat1 = vacant; charge = None }

no_seats : (p : Numbers) (f n : ℕ) (c : Conflicts) → p ≡ begun f n → seats p c ≡ []
no_seats p f n c e = rw e refl

fits_is : (z z' : Opening) (r : Bool) → z ≡ z' → r ≡ places_fit z → places_fit z' ≡ r
fits_is z z' r e h = rw (← e) (sym h)

pub returns-in_default-clause-answer : goal.returns-in_default-clause-answer
returns-in_default-clause-answer g c = sym (outside_steps _ _ _ (none_from _ _ c.in_default.ensures))

pub returns-then-not-do_places_fit-clause-answer : goal.returns-then-not-do_places_fit-clause-answer
returns-then-not-do_places_fit-clause-answer g c =
    let f = fits_is _ _ _ (same_sizes c.args.first c.args.span _ _ _ _ _ _ _ _ _ _ _ refl c.capacity.ensures c.places.ensures c.places-2.ensures c.capacity-2.ensures c.capacity-3.ensures) c.if-not-do_places_fit.ensures in
    sym (outside_places _ _ _ f)

pub returns-then-count-ne0-clause-answer : goal.returns-then-count-ne0-clause-answer
returns-then-count-ne0-clause-answer g c = sym (outside_records _ _ _ (λ e. c.if-count-ne0.true (c.count.ensures ∙ e)))

pub returns-then-count-ne0-2-clause-answer : goal.returns-then-count-ne0-2-clause-answer
returns-then-count-ne0-2-clause-answer g c = sym (outside_entries _ _ _ (λ e. c.if-count-ne0-2.true (c.count-2.ensures ∙ e)))

pub returns-clause-answer : goal.returns-clause-answer
unfolding fresh
returns-clause-answer g c =
    let l = g.S.VersionStore.records c.args.store.now in
    let es = g.C.CommitTable.entries c.args.commits.now in
    let m : count l ≡ 0 = sym c.count.ensures ∙ c.if-count-ne0.false in
    let n : length es ≡ 0 = sym c.count-2.ensures ∙ c.if-count-ne0-2.false in
    let f = fits_is _ _ _ (same_sizes c.args.first c.args.span _ _ _ _ _ _ _ _ _ _ _ refl c.capacity.ensures c.places.ensures c.places-2.ensures c.capacity-2.ensures c.capacity-3.ensures) c.if-not-do_places_fit.ensures in
    let p : numbers c.in-Some.managers ≡ begun c.args.first c.args.span = some_from _ _ _ c.in-Some.ensures in
    let t = conflicts_of c.clear-3.new.self in
    let k : t ≡ with_entries 1 [] (with_entries 0 [] (conflicts_of c.args.tables.now.conflicts)) = c.clear-3.ensures ∙ ap (with_entries 1 []) c.clear-2.ensures in
    ap (λ (q : State g.row.S-Value.Denot × Answer g.row.S-Value.Denot). Ok q.0)
    (same _ (fresh (opening c.args.first c.args.span c.args.tables.now (g.S.VersionStore.capacity c.args.store.now) (g.C.CommitTable.capacity c.args.commits.now))) (Number 0) (Number 0)
    (ap (λ (q : Numbers). q.cell) p) refl refl c.new-2.ensures (no_seats _ _ _ t p) (ap (λ (q : Numbers). q.charge) p)
    c.clear.ensures.after (nil_from_length l m) (nil_from_length es n)
    (same_sizes _ _ _ _ _ _ _ _ _ _ _ _ _ (ap (λ (q : Numbers). q.span) p) c.clear.ensures.kept (ap (λ (q : Conflicts). q.places0) k) (ap (λ (q : Conflicts). q.places1) k) refl refl) refl)
    ∙ sym (inside _ _ _ (true_from _ _ _ c.in-Some.ensures) f m n)
