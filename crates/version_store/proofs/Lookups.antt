-- A set of records by its look-ups: they determine it, and they tell what each change leaves. Assumes nothing.
use Rattle.std.proofs.Common.{◌≡◌, ℕ, suc, ◌<◌, ◌≤◌, Bool, true, false, cond, ◌&&◌, eqb, leb, List, [], ◌∷◌, Some, None, Option, sym, refl, ap, ◌∙◌, arith}
use Rattle.std.proofs.lemmas.Bool.Decides.{nat_tests}
use Rattle.model.specs.declared.words.Record.{Record}
use Rattle.model.specs.Records.{record_of, stands, before, After, Ascending, count, or_else, record_at, newest, put, mark, drop_record}

module _ {V : Type 0} where
  abbrev pub marked : ℕ → Record V → Record V
  marked n r = record_of r.key r.version (Some n) r.value

  -- nothing stands at a place before a list, or at the place of the record before it
  pub look_before : (k v : ℕ) (r : Record V) (l : List (Record V)) → before k v r ≡ true → After r l → record_at l k v ≡ None
  unfolding record_at
  look_before k v r [] h a = refl
  look_before k v r (d ∷ l) h a = let b = a.0 in let on = look_before k v r l h a.1 in grind (arith, nat_tests)

  pub look_past : (k v : ℕ) (r : Record V) (l : List (Record V)) → stands k v r ≡ true → After r l → record_at l k v ≡ None
  unfolding record_at
  look_past k v r [] h a = refl
  look_past k v r (d ∷ l) h a = let b = a.0 in let on = look_past k v r l h a.1 in grind (arith, nat_tests)

  -- a set with the same look-ups as none is empty
  none_of : (r : Record V) (l : List (Record V)) → record_at (r ∷ l) r.key r.version ≡ None → ⊥
  unfolding record_at
  none_of r l e = grind (arith, nat_tests)

  pub same_looks : (l m : List (Record V)) → Ascending l → Ascending m → ((k v : ℕ) → record_at l k v ≡ record_at m k v) → l ≡ m
  unfolding record_at
  same_looks [] [] a b e = refl
  same_looks [] (y ∷ m) a b e = absurd (none_of y m (sym (e y.key y.version)))
  same_looks (x ∷ l) [] a b e = absurd (none_of x l (e x.key x.version))
  same_looks (x ∷ l) (y ∷ m) a b e =
      go (stands x.key x.version y) refl (before x.key x.version y) refl (e x.key x.version) (e y.key y.version) (same_looks l m a.1 b.1)
    where
      -- where the first records are one, the rest has the same look-ups
      rest : x ≡ y → (k v : ℕ) → record_at l k v ≡ record_at m k v
      rest i k v = turn (stands k v x) refl (stands k v y) refl (e k v)
        where
          turn : (p : Bool) → stands k v x ≡ p → (q : Bool) → stands k v y ≡ q → cond p (Some x) (record_at l k v) ≡ cond q (Some y) (record_at m k v) → record_at l k v ≡ record_at m k v
          turn true f true g h = look_past k v x l f a.0 ∙ sym (look_past k v y m g b.0)
          turn false f false g h = h
          turn true f false g h = absurd (let j = ap (λ (r : Record V). stands k v r) i in grind arith)
          turn false f true g h = absurd (let j = ap (λ (r : Record V). stands k v r) i in grind arith)

      go : (p : Bool) → stands x.key x.version y ≡ p → (q : Bool) → before x.key x.version y ≡ q
          → record_at (x ∷ l) x.key x.version ≡ record_at (y ∷ m) x.key x.version → record_at (x ∷ l) y.key y.version ≡ record_at (y ∷ m) y.key y.version
          → (((k v : ℕ) → record_at l k v ≡ record_at m k v) → l ≡ m) → x ∷ l ≡ y ∷ m
      go true f q g at_x at_y on =
          let i : x ≡ y = (let s : Some x ≡ Some y = grind (arith, nat_tests, at_x) in cc) in
          let t = on (rest i) in cc
      go false f true g at_x at_y on = absurd (let none = look_before x.key x.version y m g b.0 in grind (arith, nat_tests, at_x))
      go false f false g at_x at_y on = absurd (let h : before y.key y.version x ≡ true = grind (arith, nat_tests) in let none = look_before y.key y.version x l h a.0 in grind (arith, nat_tests, at_y))

  -- look-ups after a put and after a drop
  pub look_put : (k v : ℕ) (e : Record V) (l : List (Record V)) → record_at (put e l) k v ≡ cond (stands k v e) (Some e) (record_at l k v)
  unfolding put record_at
  look_put k v e [] = refl
  look_put k v e (c ∷ l) = go (stands e.key e.version c) refl (before e.key e.version c) (look_put k v e l)
    where
      go : (x : Bool) → stands e.key e.version c ≡ x → (y : Bool) → record_at (put e l) k v ≡ cond (stands k v e) (Some e) (record_at l k v)
          → record_at (cond x (e ∷ l) (cond y (e ∷ c ∷ l) (c ∷ put e l))) k v ≡ cond (stands k v e) (Some e) (cond (stands k v c) (Some c) (record_at l k v))
      go true f y on = grind (arith, nat_tests)
      go false f true on = refl
      go false f false on = grind (arith, nat_tests)

  pub look_drop : (k v a b : ℕ) (l : List (Record V)) → record_at (drop_record a b l) k v ≡ cond (eqb k a && eqb v b) None (record_at l k v)
  unfolding drop_record record_at
  look_drop k v a b [] = let none : Option (Record V) = None in grind (arith, nat_tests)
  look_drop k v a b (c ∷ l) = go (stands a b c) refl (look_drop k v a b l)
    where
      go : (x : Bool) → stands a b c ≡ x → record_at (drop_record a b l) k v ≡ cond (eqb k a && eqb v b) None (record_at l k v)
          → record_at (cond x (drop_record a b l) (c ∷ drop_record a b l)) k v ≡ cond (eqb k a && eqb v b) None (cond (stands k v c) (Some c) (record_at l k v))
      go true f on = grind (arith, nat_tests)
      go false f on = grind (arith, nat_tests)

  -- where no record stands, the first is not it and the rest has none
  pub none_parts : (k v : ℕ) (c : Record V) (l : List (Record V)) → record_at (c ∷ l) k v ≡ None → (stands k v c ≡ false) × (record_at l k v ≡ None)
  unfolding record_at
  none_parts k v c l e = (grind (arith, nat_tests), grind (arith, nat_tests))

  -- what is found stands there
  pub look_stands : (k v : ℕ) (r : Record V) (l : List (Record V)) → record_at l k v ≡ Some r → stands k v r ≡ true
  unfolding record_at
  look_stands k v r [] e = absurd (grind arith)
  look_stands k v r (c ∷ l) e = go (stands k v c) refl e (look_stands k v r l)
    where
      go : (x : Bool) → stands k v c ≡ x → cond x (Some c) (record_at l k v) ≡ Some r → (record_at l k v ≡ Some r → stands k v r ≡ true) → stands k v r ≡ true
      go true f e on = let i : c ≡ r = cc in let j = ap (λ (a : Record V). stands k v a) i in cc
      go false f e on = on e

  pub mark_none : (k v n : ℕ) (l : List (Record V)) → record_at l k v ≡ None → mark k v n l ≡ l
  unfolding mark
  mark_none k v n [] e = refl
  mark_none k v n (c ∷ l) e = let w = none_parts k v c l e in rw (w.0, mark_none k v n l w.1) refl

  pub drop_none : (k v : ℕ) (l : List (Record V)) → record_at l k v ≡ None → drop_record k v l ≡ l
  unfolding drop_record
  drop_none k v [] e = refl
  drop_none k v (c ∷ l) e = let w = none_parts k v c l e in rw (w.0, drop_none k v l w.1) refl

  -- a mark puts the marked record
  pub mark_is_put : (k v n : ℕ) (r : Record V) (l : List (Record V)) → Ascending l → record_at l k v ≡ Some r → mark k v n l ≡ put (marked n r) l
  unfolding mark put record_at
  mark_is_put k v n r [] a e = absurd (grind arith)
  mark_is_put k v n r (c ∷ l) a e = go (stands k v c) refl (stands r.key r.version c) refl (before r.key r.version c) refl e (look_stands k v r (c ∷ l) e) (mark_is_put k v n r l a.1)
    where
      go : (x : Bool) → stands k v c ≡ x → (y : Bool) → stands r.key r.version c ≡ y → (z : Bool) → before r.key r.version c ≡ z → cond x (Some c) (record_at l k v) ≡ Some r → stands k v r ≡ true
          → (record_at l k v ≡ Some r → mark k v n l ≡ put (marked n r) l) → cond x (marked n c) c ∷ mark k v n l ≡ cond y (marked n r ∷ l) (cond z (marked n r ∷ c ∷ l) (c ∷ put (marked n r) l))
      go true f true g z h e s on = let i : c ≡ r = cc in let none = mark_none k v n l (look_past k v c l f a.0) in let j = ap (marked n) i in cc
      go false f false g false h e s on = ap (λ m. c ∷ m) (on e)
      go false f false g true h e s on = absurd (let b : before k v c ≡ true = grind (arith, nat_tests) in let none = look_before k v c l b a.0 in let z : ◌≡◌ {A = Option (Record V)} None (Some r) = sym none ∙ e in grind arith)
      go true f false g z h e s on = absurd (grind (arith, nat_tests))
      go false f true g z h e s on = absurd (grind (arith, nat_tests))

  -- a new record makes one more
  pub count_put : (e : Record V) (l : List (Record V)) → record_at l e.key e.version ≡ None → count (put e l) ≡ suc (count l)
  unfolding put
  count_put e [] n = refl
  count_put e (c ∷ l) n = let w = none_parts e.key e.version c l n in rw w.0 (go (before e.key e.version c) (count_put e l w.1))
    where
      go : (y : Bool) → count (put e l) ≡ suc (count l) → count (cond y (e ∷ c ∷ l) (c ∷ put e l)) ≡ suc (suc (count l))
      go true on = refl
      go false on = ap suc on

  -- the newest record by look-ups: none, or the one of greatest version
  pub newest_no_look : (k b : ℕ) (l : List (Record V)) → ((w : ℕ) → w ≤ b → record_at l k w ≡ None) → newest k b l ≡ None
  unfolding newest
  newest_no_look k b [] a = refl
  newest_no_look k b (c ∷ l) a =
      let on = newest_no_look k b l (λ w h. (none_parts k w c l (a w h)).1) in
      let out : (eqb k c.key && leb c.version b) ≡ false = go (eqb k c.key && leb c.version b) refl in
      rw (on, out) refl
    where
      go : (x : Bool) → (eqb k c.key && leb c.version b) ≡ x → x ≡ false
      go true f = absurd (let n = (none_parts k c.version c l (a c.version (grind (arith, nat_tests)))).0 in grind (arith, nat_tests))
      go false f = refl

  pub newest_look : (k b v : ℕ) (r : Record V) (l : List (Record V)) → Ascending l → v ≤ b → record_at l k v ≡ Some r → ((w : ℕ) → v < w → w ≤ b → record_at l k w ≡ None) → newest k b l ≡ Some r
  unfolding newest record_at
  newest_look k b v r [] a h e n = absurd (grind arith)
  newest_look k b v r (c ∷ l) a h e n = go (stands k v c) refl e (λ f. newest_look k b v r l a.1 h f (λ w g i. (none_parts k w c l (n w g i)).1))
    where
      -- past a record at v, of the key, there is none up to the bound
      clear : stands k v c ≡ true → (w : ℕ) → w ≤ b → record_at l k w ≡ None
      clear f w i = turn (leb w v) refl
        where
          turn : (x : Bool) → leb w v ≡ x → record_at l k w ≡ None
          turn false g = (none_parts k w c l (n w (grind (arith, nat_tests)) i)).1
          turn true g = same (eqb w v) refl
            where
              same : (y : Bool) → eqb w v ≡ y → record_at l k w ≡ None
              same true j = look_past k w c l (grind (arith, nat_tests)) a.0
              same false j = look_before k w c l (grind (arith, nat_tests)) a.0

      go : (x : Bool) → stands k v c ≡ x → cond x (Some c) (record_at l k v) ≡ Some r → (record_at l k v ≡ Some r → newest k b l ≡ Some r) → or_else (newest k b l) (cond (eqb k c.key && leb c.version b) (Some c) None) ≡ Some r
      go true f e on =
          let none = newest_no_look k b l (clear f) in
          let here : (eqb k c.key && leb c.version b) ≡ true = grind (arith, nat_tests) in
          rw (none, here) e
      go false f e on = rw (on e) refl
