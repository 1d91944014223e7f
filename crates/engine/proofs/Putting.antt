-- A store's answer to a put, in terms of whether a new record is needed and finds no room.
use Rattle.std.proofs.Common.{◌≡◌, ℕ, ◌<◌, ◌≤◌, Bool, true, false, cond, not, ◌&&◌, ◌||◌, ltb, leb, List, Ok, Err, refl, ap, ◌∙◌, ⊎_elim, arith}
use Rattle.std.proofs.lemmas.Bool.{cases_lt, lt-ltb, le-ltb, le-leb, lt-leb}
use Rattle.model.specs.declared.words.Record.{Record}
use Rattle.model.specs.Maps.{is_there}
use Rattle.model.specs.Records.{count, record_at, put}
use Rattle.model.specs.declared.words.Full.{Full}
use Rattle.version_store.specs.Putting.{PuttingOutcome, putting, put_in}

no_room : (m n : ℕ) → leb n m ≡ not (ltb m n)
no_room m n = ⊎_elim (λ (h : m < n). rw (lt-ltb m n h, lt-leb n m h) refl) (λ (h : n ≤ m). rw (le-ltb m n h, le-leb n m h) refl) (cases_lt m n)

refused_is : (a : Bool) (m n : ℕ) → (not a && leb n m) ≡ not (a || ltb m n)
refused_is true m n = refl
refused_is false m n = no_room m n

module _ {V : Type 0} (n : ℕ) (r : Record V) (l : List (Record V)) (left : List (Record V)) where
  -- a new record is needed, and there is no room
  abbrev pub refused : Bool
  refused = not (is_there (record_at l r.key r.version)) && leb n (count l)

  accepted_from : (t : Bool) → putting (Ok tt) left ≡ cond t (putting (Ok tt) (put r l)) (putting (Err (record {})) l) → (not t ≡ false) × (left ≡ put r l)
  accepted_from true e = (refl, ap (λ (o : PuttingOutcome V). o.left) e)
  accepted_from false e = absurd (let h = ap (λ (o : PuttingOutcome V). o.answer) e in let z : ◌≡◌ {A = ℕ} 0 1 = cc in omega arith)

  -- what an accepted put tells
  pub accepted : putting (Ok tt) left ≡ put_in n r l → (refused ≡ false) × (left ≡ put r l)
  accepted e =
      let t = is_there (record_at l r.key r.version) in
      let p = accepted_from (t || ltb (count l) n) e in
      (refused_is t (count l) n ∙ p.0, p.1)

  denied_from : (w : Full) (t : Bool) → putting (Err w) left ≡ cond t (putting (Ok tt) (put r l)) (putting (Err (record {})) l) → (not t ≡ true) × (left ≡ l)
  denied_from w true e = absurd (let h = ap (λ (o : PuttingOutcome V). o.answer) e in let z : ◌≡◌ {A = ℕ} 0 1 = cc in omega arith)
  denied_from w false e = (refl, ap (λ (o : PuttingOutcome V). o.left) e)

  -- what a put tells that found no room
  pub denied : (w : Full) → putting (Err w) left ≡ put_in n r l → (refused ≡ true) × (left ≡ l)
  denied w e =
      let t = is_there (record_at l r.key r.version) in
      let p = denied_from w (t || ltb (count l) n) e in
      (refused_is t (count l) n ∙ p.0, p.1)
