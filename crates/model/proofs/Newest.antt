-- The versions of a key, met one by one by `newest`: what code that has only `newest`, `mark` and `drop` needs.
use Rattle.std.proofs.Common.{◌≡◌, ℕ, zero, suc, ◌<◌, ◌≤◌, Bool, true, false, cond, ◌&&◌, eqb, leb, List, [], ◌∷◌, Some, None, Option, sym, refl, ap, ◌∙◌, arith}
use Rattle.std.proofs.lemmas.Bool.Decides.{nat_tests}
use Rattle.model.specs.declared.words.Record.{Record}
use Rattle.model.specs.Records.{record_of, stands, After, Ascending, or_else, record_at, newest, mark, drop_record}
use Rattle.model.specs.Versions.{versions_down}

module _ {V : Type 0} where
  -- a record of the key k, of a version up to b
  abbrev in_reach : ℕ → ℕ → Record V → Bool
  in_reach k b r = eqb k r.key && leb r.version b

  -- the versions of k below v, in front of a list
  abbrev pub under : List (Record V) → ℕ → ℕ → List ℕ → List ℕ
  under l k zero acc = acc
  under l k (suc b) acc = versions_down l k b acc

  -- where there is no newest record, no version is in reach
  pub newest_none : (l : List (Record V)) (k b : ℕ) (acc : List ℕ) → newest k b l ≡ None → versions_down l k b acc ≡ acc
  unfolding newest versions_down
  newest_none [] k b acc e = refl
  newest_none (r ∷ l) k b acc e = go (newest k b l) refl (in_reach k b r) e (newest_none l k b acc)
    where
      go : (o : Option (Record V)) → newest k b l ≡ o → (x : Bool) → or_else o (cond x (Some r) None) ≡ None → (newest k b l ≡ None → versions_down l k b acc ≡ acc) → versions_down l k b (cond x (r.version ∷ acc) acc) ≡ acc
      go (Some a) f x e on = absurd (grind arith)
      go None f true e on = absurd (grind arith)
      go None f false e on = on f

  -- and no record stands at a version in reach
  pub none_at : (l : List (Record V)) (k b v : ℕ) → newest k b l ≡ None → v ≤ b → record_at l k v ≡ None
  unfolding newest record_at
  none_at [] k b v e h = refl
  none_at (r ∷ l) k b v e h = go (newest k b l) refl (in_reach k b r) refl e (λ f. none_at l k b v f h)
    where
      go : (o : Option (Record V)) → newest k b l ≡ o → (x : Bool) → in_reach k b r ≡ x → or_else o (cond x (Some r) None) ≡ None → (newest k b l ≡ None → record_at l k v ≡ None) → cond (stands k v r) (Some r) (record_at l k v) ≡ None
      go (Some a) f x g e on = absurd (grind arith)
      go None f true g e on = absurd (grind arith)
      go None f false g e on = grind (arith, nat_tests, on f)

  -- a smaller bound finds nothing either
  newest_less : (l : List (Record V)) (k b c : ℕ) → c ≤ b → newest k b l ≡ None → newest k c l ≡ None
  unfolding newest
  newest_less [] k b c h e = refl
  newest_less (r ∷ l) k b c h e = go (newest k b l) refl (in_reach k b r) refl e (newest_less l k b c h) (in_reach k c r) refl
    where
      go : (o : Option (Record V)) → newest k b l ≡ o → (x : Bool) → in_reach k b r ≡ x → or_else o (cond x (Some r) None) ≡ None → (newest k b l ≡ None → newest k c l ≡ None)
          → (y : Bool) → in_reach k c r ≡ y → or_else (newest k c l) (cond y (Some r) None) ≡ None
      go (Some a) f x g e on y i = absurd (grind arith)
      go None f true g e on y i = absurd (grind arith)
      go None f false g e on true i = absurd (grind (arith, nat_tests))
      go None f false g e on false i = ap (λ o. or_else o None) (on f)

  -- the newest record is of the key and in reach
  pub newest_is : (l : List (Record V)) (k b : ℕ) (r : Record V) → newest k b l ≡ Some r → (r.key ≡ k) × (r.version ≤ b)
  unfolding newest
  newest_is [] k b r e = absurd (grind arith)
  newest_is (c ∷ l) k b r e = go (newest k b l) refl (in_reach k b c) refl e (newest_is l k b r)
    where
      go : (o : Option (Record V)) → newest k b l ≡ o → (x : Bool) → in_reach k b c ≡ x → or_else o (cond x (Some c) None) ≡ Some r → (newest k b l ≡ Some r → (r.key ≡ k) × (r.version ≤ b)) → (r.key ≡ k) × (r.version ≤ b)
      go (Some a) f x g e on = on (f ∙ e)
      go None f true g e on = let i : c ≡ r = cc in (grind (arith, nat_tests, ap (λ (a : Record V). a.key) i), grind (arith, nat_tests, ap (λ (a : Record V). a.version) i))
      go None f false g e on = absurd (grind arith)

  -- a record after c, of c's key, has a greater version
  after_newest : (c : Record V) (l : List (Record V)) (k b : ℕ) (r : Record V) → After c l → newest k b l ≡ Some r → c.key ≡ k → c.version < r.version
  unfolding newest
  after_newest c [] k b r A e i = absurd (grind arith)
  after_newest c (d ∷ l) k b r A e i = go (newest k b l) refl (in_reach k b d) refl e (λ f. after_newest c l k b r A.1 f i)
    where
      go : (o : Option (Record V)) → newest k b l ≡ o → (x : Bool) → in_reach k b d ≡ x → or_else o (cond x (Some d) None) ≡ Some r → (newest k b l ≡ Some r → c.version < r.version) → c.version < r.version
      go (Some a) f x g e on = on (f ∙ e)
      go None f true g e on = let j : d ≡ r = cc in let v = ap (λ (a : Record V). a.version) j in grind (arith, nat_tests, A.0)
      go None f false g e on = absurd (grind arith)

  -- the newest record stands where it says
  pub newest_at : (l : List (Record V)) (k b : ℕ) (r : Record V) → Ascending l → newest k b l ≡ Some r → record_at l k r.version ≡ Some r
  unfolding newest record_at
  newest_at [] k b r A e = absurd (grind arith)
  newest_at (c ∷ l) k b r A e = go (newest k b l) refl (in_reach k b c) refl e (newest_at l k b r A.1) (λ f i. after_newest c l k b r A.0 f i)
    where
      go : (o : Option (Record V)) → newest k b l ≡ o → (x : Bool) → in_reach k b c ≡ x → or_else o (cond x (Some c) None) ≡ Some r → (newest k b l ≡ Some r → record_at l k r.version ≡ Some r)
          → (newest k b l ≡ Some r → c.key ≡ k → c.version < r.version) → cond (stands k r.version c) (Some c) (record_at l k r.version) ≡ Some r
      go (Some a) f x g e on up = let u = up (f ∙ e) in grind (arith, nat_tests, on (f ∙ e), u)
      go None f true g e on up = let j : c ≡ r = cc in let v = ap (λ (a : Record V). a.version) j in grind (arith, nat_tests)
      go None f false g e on up = absurd (grind arith)

  -- nothing stands between the newest record and the bound
  pub newest_gap : (l : List (Record V)) (k b : ℕ) (r : Record V) (v : ℕ) → newest k b l ≡ Some r → Ascending l → r.version < v → v ≤ b → record_at l k v ≡ None
  unfolding newest record_at
  newest_gap [] k b r v e A lt h = refl
  newest_gap (c ∷ l) k b r v e A lt h = go (newest k b l) refl (in_reach k b c) refl e (λ f. newest_gap l k b r v f A.1 lt h) (λ f i. after_newest c l k b r A.0 f i) (λ f. none_at l k b v f h)
    where
      go : (o : Option (Record V)) → newest k b l ≡ o → (x : Bool) → in_reach k b c ≡ x → or_else o (cond x (Some c) None) ≡ Some r → (newest k b l ≡ Some r → record_at l k v ≡ None)
          → (newest k b l ≡ Some r → c.key ≡ k → c.version < r.version) → (newest k b l ≡ None → record_at l k v ≡ None) → cond (stands k v c) (Some c) (record_at l k v) ≡ None
      go (Some a) f x g e on up no_one = let u = up (f ∙ e) in grind (arith, nat_tests, on (f ∙ e), u)
      go None f true g e on up no_one = let j : c ≡ r = cc in let w = ap (λ (a : Record V). a.version) j in grind (arith, nat_tests, no_one f)
      go None f false g e on up no_one = absurd (grind arith)

  -- a record of just the version v
  abbrev pub exact : ℕ → Option (Record V) → Option (Record V)
  exact v None = None
  exact v (Some r) = cond (eqb v r.version) (Some r) None

  -- the record at a version is the newest up to it, if that has the version
  pub at_newest : (l : List (Record V)) (k v : ℕ) → Ascending l → record_at l k v ≡ exact v (newest k v l)
  at_newest l k v A = go (newest k v l) refl
    where
      test : (r : Record V) → newest k v l ≡ Some r → (b : Bool) → eqb v r.version ≡ b → record_at l k v ≡ cond b (Some r) None
      test r e true f = let i : v ≡ r.version = grind (arith, nat_tests) in rw i (newest_at l k v r A e)
      test r e false f = newest_gap l k v r v e A (let p = newest_is l k v r e in grind (arith, nat_tests, p.1)) (omega arith)

      go : (o : Option (Record V)) → newest k v l ≡ o → record_at l k v ≡ exact v o
      go None e = none_at l k v v e (omega arith)
      go (Some r) e = test r e (eqb v r.version) refl

  -- the versions in reach are the newest and those below it
  pub newest_some : (l : List (Record V)) (k b : ℕ) (r : Record V) (acc : List ℕ) → Ascending l → newest k b l ≡ Some r → versions_down l k b acc ≡ r.version ∷ under l k r.version acc
  unfolding newest versions_down
  newest_some [] k b r acc A e = absurd (grind arith)
  newest_some (c ∷ l) k b r acc A e =
      go (newest k b l) refl (in_reach k b c) refl e (λ acc f. newest_some l k b r acc A.1 f) (λ f i. after_newest c l k b r A.0 f i) (λ f. newest_is l k b r f)
    where
      -- below r: c is in reach if it was
      rest : (v : ℕ) → r.version ≡ v → (x : Bool) → in_reach k b c ≡ x → (c.key ≡ k → c.version < v) → v ≤ b → under l k v (cond x (c.version ∷ acc) acc) ≡ under (c ∷ l) k v acc
      rest zero i true g up h = absurd (let u : c.version < 0 = up (grind (arith, nat_tests)) in omega arith)
      rest zero i false g up h = refl
      rest (suc a) i true g up h =
          let q : in_reach k a c ≡ true = grind (arith, nat_tests, up) in
          rw q refl
      rest (suc a) i false g up h =
          let q : in_reach k a c ≡ false = grind (arith, nat_tests, up) in
          rw q refl

      -- r is c: nothing below
      last : (v : ℕ) → c.version ≡ v → newest k b l ≡ None → v ≤ b → under (c ∷ l) k v acc ≡ acc
      last zero i f h = refl
      last (suc a) i f h =
          let q : in_reach k a c ≡ false = grind (arith, nat_tests) in
          let n = newest_none l k a acc (newest_less l k b a (omega arith) f) in
          rw q n

      go : (o : Option (Record V)) → newest k b l ≡ o → (x : Bool) → in_reach k b c ≡ x → or_else o (cond x (Some c) None) ≡ Some r
          → ((acc : List ℕ) → newest k b l ≡ Some r → versions_down l k b acc ≡ r.version ∷ under l k r.version acc) → (newest k b l ≡ Some r → c.key ≡ k → c.version < r.version) → (newest k b l ≡ Some r → (r.key ≡ k) × (r.version ≤ b))
          → versions_down l k b (cond x (c.version ∷ acc) acc) ≡ r.version ∷ under (c ∷ l) k r.version acc
      go (Some a) f x g e on up is = on (cond x (c.version ∷ acc) acc) (f ∙ e) ∙ ap (λ t. r.version ∷ t) (rest r.version refl x g (up (f ∙ e)) (is (f ∙ e)).1)
      go None f true g e on up is =
          let j : c ≡ r = cc in
          let v : c.version ≡ r.version = ap (λ (a : Record V). a.version) j in
          newest_none l k b (c.version ∷ acc) f ∙ (ap (λ n. n ∷ acc) v ∙ ap (λ t. r.version ∷ t) (sym (last r.version v f (let z : c.version ≤ b = grind (arith, nat_tests) in omega arith))))
      go None f false g e on up is = absurd (grind arith)

  -- a mark moves no version
  pub down_mark : (k v n : ℕ) (l : List (Record V)) (q b : ℕ) (acc : List ℕ) → versions_down (mark k v n l) q b acc ≡ versions_down l q b acc
  unfolding versions_down mark
  down_mark k v n [] q b acc = refl
  down_mark k v n (r ∷ l) q b acc = go (λ acc. down_mark k v n l q b acc) (stands k v r)
    where
      go : ((acc : List ℕ) → versions_down (mark k v n l) q b acc ≡ versions_down l q b acc) → (x : Bool) → versions_down (cond x (record_of r.key r.version (Some n) r.value) r ∷ mark k v n l) q b acc ≡ versions_down l q b (cond (in_reach q b r) (r.version ∷ acc) acc)
      go on true = on (cond (in_reach q b r) (r.version ∷ acc) acc)
      go on false = on (cond (in_reach q b r) (r.version ∷ acc) acc)

  -- a drop moves no version below it
  pub down_drop : (k v : ℕ) (l : List (Record V)) (b : ℕ) (acc : List ℕ) → b < v → versions_down (drop_record k v l) k b acc ≡ versions_down l k b acc
  unfolding versions_down drop_record
  down_drop k v [] b acc h = refl
  down_drop k v (r ∷ l) b acc h = go (λ acc. down_drop k v l b acc h) (stands k v r) refl
    where
      go : ((acc : List ℕ) → versions_down (drop_record k v l) k b acc ≡ versions_down l k b acc) → (x : Bool) → stands k v r ≡ x → versions_down (cond x (drop_record k v l) (r ∷ drop_record k v l)) k b acc ≡ versions_down l k b (cond (in_reach k b r) (r.version ∷ acc) acc)
      go on true e = let q : in_reach k b r ≡ false = grind (arith, nat_tests) in on acc ∙ rw q refl
      go on false e = on (cond (in_reach k b r) (r.version ∷ acc) acc)
