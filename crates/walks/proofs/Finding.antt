-- The record that a read finds is the newest, up to its start, of those numbered below it: what the walk passed over is not numbered so. Assumes nothing.
use Rattle.std.proofs.Common.{◌≡◌, ℕ, zero, suc, ◌<◌, ◌≤◌, Bool, true, false, cond, ◌&&◌, eqb, leb, List, [], ◌∷◌, Some, None, Option, sym, refl, ap, subst, inl, inr, arith}
use Rattle.std.proofs.lemmas.Bool.Decides.{leb_tells, nat_tests}
use Rattle.model.specs.declared.words.Record.{Record}
use Rattle.model.specs.Records.{record_of, stands, After, Ascending, record_at, newest, mark}
use Rattle.model.specs.Versions.{number_under}
use Rattle.model.specs.Sweeping.{low_under}
use Rattle.model.proofs.Newest.{none_at, newest_gap}
use Rattle.versions.specs.Down.{older}
use Rattle.versions.proofs.Going.{height}
use Rattle.walks.specs.Reading.{if_below, numbered_below}

module _ {V : Type 0} where
  -- a mark, where it is and elsewhere
  pub mark_here : (k v n : ℕ) (l : List (Record V)) (r : Record V) → record_at l k v ≡ Some r → record_at (mark k v n l) k v ≡ Some (record_of r.key r.version (Some n) r.value)
  unfolding record_at mark
  mark_here k v n [] r e = absurd (grind arith)
  mark_here k v n (c ∷ l) r e = go (stands k v c) refl e (mark_here k v n l r)
    where
      go : (b : Bool) → stands k v c ≡ b → cond b (Some c) (record_at l k v) ≡ Some r → (record_at l k v ≡ Some r → record_at (mark k v n l) k v ≡ Some (record_of r.key r.version (Some n) r.value))
          → record_at (cond b (record_of c.key c.version (Some n) c.value) c ∷ mark k v n l) k v ≡ Some (record_of r.key r.version (Some n) r.value)
      go true f e on = let i : c ≡ r = cc in rw (f, i) refl
      go false f e on = rw f (on e)

  pub mark_elsewhere : (k v n w : ℕ) (l : List (Record V)) → (w ≡ v → ⊥) → record_at (mark k v n l) k w ≡ record_at l k w
  unfolding record_at mark
  mark_elsewhere k v n w [] ne = refl
  mark_elsewhere k v n w (c ∷ l) ne = go (stands k v c) refl (mark_elsewhere k v n w l ne)
    where
      go : (b : Bool) → stands k v c ≡ b → record_at (mark k v n l) k w ≡ record_at l k w
          → record_at (cond b (record_of c.key c.version (Some n) c.value) c ∷ mark k v n l) k w ≡ cond (stands k w c) (Some c) (record_at l k w)
      go true f on = let q : stands k w c ≡ false = grind (arith, nat_tests) in rw q on
      go false f on = ap (λ o. cond (stands k w c) (Some c) o) on

  -- no record after c has its key and a version up to its own
  pub after_none : (c : Record V) (l : List (Record V)) (w : ℕ) → After c l → w ≤ c.version → record_at l c.key w ≡ None
  unfolding record_at
  after_none c [] w A h = refl
  after_none c (d ∷ l) w A h = let q : stands c.key w d ≡ false = grind (arith, nat_tests, A.0) in rw q (after_none c l w A.1 h)

  -- what holds of no record numbered below m in c ∷ l, holds of none in l
  low_tail : (m k w : ℕ) (c : Record V) (l : List (Record V)) → After c l → low_under m (record_at (c ∷ l) k w) ≡ false → low_under m (record_at l k w) ≡ false
  unfolding record_at
  low_tail m k w c l A h = go (stands k w c) refl h
    where
      go : (b : Bool) → stands k w c ≡ b → low_under m (cond b (Some c) (record_at l k w)) ≡ false → low_under m (record_at l k w) ≡ false
      go true e h =
          let i : k ≡ c.key = grind (arith, nat_tests) in
          let j : w ≤ c.version = grind (arith, nat_tests) in
          rw i (rw (after_none c l w A j) refl)
      go false e h = h

  none_numbered : (m k b : ℕ) (l : List (Record V)) → Ascending l → ((w : ℕ) → w ≤ b → low_under m (record_at l k w) ≡ false) → newest k b (numbered_below m l) ≡ None
  unfolding newest numbered_below record_at
  none_numbered m k b [] A h = refl
  none_numbered m k b (c ∷ l) A h = go (number_under m c.number) refl (none_numbered m k b l A.1 (λ w i. low_tail m k w c l A.0 (h w i)))
    where
      reach : (x : Bool) → (eqb k c.key && leb c.version b) ≡ x → number_under m c.number ≡ true → cond x (Some c) None ≡ None
      reach true e u =
          let i : k ≡ c.key = grind (arith, nat_tests) in
          let j : c.version ≤ b = grind (arith, nat_tests) in
          let s : stands k c.version c ≡ true = grind (arith, nat_tests) in
          let z : low_under m (cond (stands k c.version c) (Some c) (record_at l k c.version)) ≡ false = h c.version j in
          absurd (let y : number_under m c.number ≡ false = rw s at z in grind arith)
      reach false e u = refl

      go : (u : Bool) → number_under m c.number ≡ u → newest k b (numbered_below m l) ≡ None → newest k b (cond u (c ∷ numbered_below m l) (numbered_below m l)) ≡ None
      go true e on = rw on (reach (eqb k c.key && leb c.version b) refl e)
      go false e on = on

  some_numbered : (m k b v : ℕ) (l : List (Record V)) (r : Record V) → Ascending l → record_at l k v ≡ Some r → number_under m r.number ≡ true → v ≤ b
      → ((w : ℕ) → v < w → w ≤ b → low_under m (record_at l k w) ≡ false) → newest k b (numbered_below m l) ≡ Some r
  unfolding newest numbered_below record_at
  some_numbered m k b v [] r A e u i h = absurd (grind arith)
  some_numbered m k b v (c ∷ l) r A e u i h = go (stands k v c) refl e (λ f. some_numbered m k b v l r A.1 f u i (λ w x y. low_tail m k w c l A.0 (h w x y)))
    where
      -- below v nothing stands after c
      rest : k ≡ c.key → v ≡ c.version → (w : ℕ) → w ≤ b → low_under m (record_at l k w) ≡ false
      rest p q w y = elim (leb_tells w v) [ inl x ↦ (let z : w ≤ c.version = omega (arith, x.1) in rw p (rw (after_none c l w A.0 z) refl)) | inr x ↦ low_tail m k w c l A.0 (h w x.1 y) ]

      skip : (x : Bool) → newest k b (numbered_below m l) ≡ Some r → newest k b (cond x (c ∷ numbered_below m l) (numbered_below m l)) ≡ Some r
      skip true on = rw on refl
      skip false on = on

      go : (x : Bool) → stands k v c ≡ x → cond x (Some c) (record_at l k v) ≡ Some r → (record_at l k v ≡ Some r → newest k b (numbered_below m l) ≡ Some r)
          → newest k b (cond (number_under m c.number) (c ∷ numbered_below m l) (numbered_below m l)) ≡ Some r
      go true f e on =
          let j : c ≡ r = cc in
          let p : k ≡ c.key = grind (arith, nat_tests) in
          let q : v ≡ c.version = grind (arith, nat_tests) in
          let t : number_under m c.number ≡ true = rw j u in
          let n : newest k b (numbered_below m l) ≡ None = none_numbered m k b l A.1 (rest p q) in
          let s : (eqb k c.key && leb c.version b) ≡ true = grind (arith, nat_tests) in
          rw (t, n, s) (ap Some j)
      go false f e on = skip (number_under m c.number) (on e)

  -- from n on up to id, no record is numbered below id
  abbrev pub Passed : ℕ → ℕ → List (Record V) → Option (Record V) → Type 0
  Passed id k l n = (w : ℕ) → height n ≤ w → w ≤ id → low_under id (record_at l k w) ≡ false

  -- no record stands between a bound and the newest up to it
  gap : (l : List (Record V)) (k b w : ℕ) (o : Option (Record V)) → Ascending l → newest k b l ≡ o → height o ≤ w → w ≤ b → record_at l k w ≡ None
  gap l k b w None A e h i = none_at l k b w e i
  gap l k b w (Some r) A e h i = newest_gap l k b r w e A h i

  gap_below : (l : List (Record V)) (k v w : ℕ) (o : Option (Record V)) → Ascending l → older k v l ≡ o → height o ≤ w → w < v → record_at l k w ≡ None
  gap_below l k zero w o A e h i = absurd (omega arith)
  gap_below l k (suc b) w o A e h i = gap l k b w o A e h (omega arith)

  pub passed_first : (id k : ℕ) (l : List (Record V)) (o : Option (Record V)) → Ascending l → newest k id l ≡ o → Passed id k l o
  passed_first id k l o A e w h i = ap (low_under id) (gap l k id w o A e h i)

  low_not : (m : ℕ) (o : Option (Record V)) → None ≡ if_below m o → low_under m o ≡ false
  low_not m None h = refl
  low_not m (Some r) h = grind arith

  low_found : (m : ℕ) (o : Option (Record V)) (r : Record V) → Some r ≡ if_below m o → (o ≡ Some r) × (number_under m r.number ≡ true)
  low_found m None r h = absurd (grind arith)
  low_found m (Some c) r h = go (number_under m c.number) refl h
    where
      go : (b : Bool) → number_under m c.number ≡ b → Some r ≡ cond b (Some c) None → (Some c ≡ Some r) × (number_under m r.number ≡ true)
      go true e h = let i : c ≡ r = cc in (ap Some i, rw (← i) e)
      go false e h = absurd (grind arith)

  -- a turn: r was met in n among l, and afterwards only it can differ, among d
  module _ (id k : ℕ) (l d : List (Record V)) (n : Option (Record V)) (r : Record V) (i : n ≡ Some r) (P : Passed id k l n) (A : Ascending d)
      (same : (w : ℕ) → (w ≡ r.version → ⊥) → record_at d k w ≡ record_at l k w) where
    above : (w : ℕ) → r.version < w → w ≤ id → low_under id (record_at d k w) ≡ false
    above w x y =
        let h : height n ≤ w = rw i x in
        let ne : w ≡ r.version → ⊥ = λ e. omega arith in
        rw (same w ne) (P w h y)

    pub passed_next : (o : Option (Record V)) → None ≡ if_below id (record_at d k r.version) → older k r.version d ≡ o → Passed id k d o
    passed_next o u e w h y = elim (leb_tells w r.version) [ inl x ↦ at_or_below x.1 | inr x ↦ above w x.1 y ]
      where
        at_or_below : w ≤ r.version → low_under id (record_at d k w) ≡ false
        at_or_below x = elim (leb_tells r.version w) [
          | inl z ↦ (let q : w ≡ r.version = omega (arith, z.1) in rw q (low_not id (record_at d k r.version) u))
          | inr z ↦ ap (low_under id) (gap_below d k r.version w o A e h z.1)
        ]

    pub found_newest : (x : Record V) → Some x ≡ if_below id (record_at d k r.version) → height n ≤ suc id → Some x ≡ newest k id (numbered_below id d)
    found_newest x u h =
        let q = low_found id (record_at d k r.version) x u in
        let b : suc r.version ≤ suc id = subst (λ (a : Option (Record V)). height a ≤ suc id) i h in
        sym (some_numbered id k id r.version d x A q.0 q.1 (omega arith) above)

  pub found_none : (id k : ℕ) (l : List (Record V)) (n : Option (Record V)) → Ascending l → n ≡ None → Passed id k l n → None ≡ newest k id (numbered_below id l)
  found_none id k l n A i P = sym (none_numbered id k id l A (λ w y. P w (rw i (omega arith)) y))
