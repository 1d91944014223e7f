-- Maps stay in ascending order, and one whose numbers all stand in another has no more entries than that.
use Rattle.std.proofs.Common.{◌≡◌, ℕ, ◌<◌, ◌≤◌, Bool, true, false, cond, eqb, ltb, List, [], ◌∷◌, length, Some, sym, refl, ap, ◌∙◌, arith}
use Rattle.std.proofs.lemmas.Bool.Decides.{nat_tests}
use Rattle.model.specs.Maps.{is_there, look_up, enter, remove, Above, Rising}

module _ {X : Type 0} where
  above_less : (l : List (ℕ × X)) (b c : ℕ) → b ≤ c → Above c l → Above b l
  above_less [] b c h a = tt
  above_less (e ∷ l) b c h a = (let u = a.0 in omega arith, above_less l b c h a.1)

  above_enter : (k : ℕ) (x : X) (l : List (ℕ × X)) (b : ℕ) → b < k → Above b l → Above b (enter k x l)
  unfolding enter
  above_enter k x [] b h a = (h, tt)
  above_enter k x (e ∷ l) b h a = go (eqb k e.0) (ltb k e.0) (above_enter k x l b h a.1)
    where
      go : (p q : Bool) → Above b (enter k x l) → Above b (cond p ((k, x) ∷ l) (cond q ((k, x) ∷ e ∷ l) (e ∷ enter k x l)))
      go true q m = (h, a.1)
      go false true m = (h, a)
      go false false m = (a.0, m)

  pub enter_rises : (k : ℕ) (x : X) (l : List (ℕ × X)) → Rising l → Rising (enter k x l)
  unfolding enter
  enter_rises k x [] r = (tt, tt)
  enter_rises k x (e ∷ l) r = go (eqb k e.0) refl (ltb k e.0) refl (enter_rises k x l r.1)
    where
      go : (p : Bool) → eqb k e.0 ≡ p → (q : Bool) → ltb k e.0 ≡ q → Rising (enter k x l) → Rising (cond p ((k, x) ∷ l) (cond q ((k, x) ∷ e ∷ l) (e ∷ enter k x l)))
      go true i q j m = (above_less l k e.0 (grind (arith, nat_tests)) r.0, r.1)
      go false i true j m = ((grind (arith, nat_tests), above_less l k e.0 (grind (arith, nat_tests)) r.0), r)
      go false i false j m = (above_enter k x l e.0 (grind (arith, nat_tests)) r.0, m)

  above_remove : (k : ℕ) (l : List (ℕ × X)) (b : ℕ) → Above b l → Above b (remove k l)
  unfolding remove
  above_remove k [] b a = tt
  above_remove k (e ∷ l) b a = go (eqb k e.0) (above_remove k l b a.1)
    where
      go : (p : Bool) → Above b (remove k l) → Above b (cond p (remove k l) (e ∷ remove k l))
      go true m = m
      go false m = (a.0, m)

  pub remove_rises : (k : ℕ) (l : List (ℕ × X)) → Rising l → Rising (remove k l)
  unfolding remove
  remove_rises k [] r = tt
  remove_rises k (e ∷ l) r = go (eqb k e.0) (remove_rises k l r.1)
    where
      go : (p : Bool) → Rising (remove k l) → Rising (cond p (remove k l) (e ∷ remove k l))
      go true m = m
      go false m = (above_remove k l e.0 r.0, m)

  -- what stands in a map above b is above b
  above_there : (l : List (ℕ × X)) (b q : ℕ) → Above b l → is_there (look_up l q) ≡ true → b < q
  unfolding look_up
  above_there [] b q a t = grind arith
  above_there (e ∷ l) b q a t = go (above_there l b q a.1) (eqb q e.0) refl t
    where
      go : (is_there (look_up l q) ≡ true → b < q) → (p : Bool) → eqb q e.0 ≡ p → is_there (cond p (Some e.1) (look_up l q)) ≡ true → b < q
      go on true i t = let j : q ≡ e.0 = grind (arith, nat_tests) in let u = a.0 in omega arith
      go on false i t = on t

  -- what stands in e ∷ l stands at e, or in l
  at_head : (e : ℕ × X) (l : List (ℕ × X)) → is_there (look_up (e ∷ l) e.0) ≡ true
  unfolding look_up
  at_head e l = grind (arith, nat_tests)

  past_head : (e : ℕ × X) (l : List (ℕ × X)) (q : ℕ) → (q ≡ e.0 → ⊥) → look_up (e ∷ l) q ≡ look_up l q
  unfolding look_up
  past_head e l q n = grind (arith, nat_tests)

none_there : (X : Type 0) (q : ℕ) → is_there (look_up {X = X} [] q) ≡ true → ⊥
unfolding look_up
none_there X q t = grind arith

pub no_more : (X Y : Type 0) (m : List (ℕ × Y)) (l : List (ℕ × X)) → Rising l → Rising m → ((q : ℕ) → is_there (look_up l q) ≡ true → is_there (look_up m q) ≡ true) → length l ≤ length m
no_more X Y m [] R S f = omega arith
no_more X Y [] (e ∷ l) R S f = absurd (none_there Y e.0 (f e.0 (at_head e l)))
no_more X Y (d ∷ m) (e ∷ l) R S f = go (eqb e.0 d.0) refl (ltb d.0 e.0) refl (λ g. no_more X Y m l R.1 S.1 g) (λ g. no_more X Y m (e ∷ l) R S.1 g)
  where
    go : (p : Bool) → eqb e.0 d.0 ≡ p → (o : Bool) → ltb d.0 e.0 ≡ o
        → (((q : ℕ) → is_there (look_up l q) ≡ true → is_there (look_up m q) ≡ true) → length l ≤ length m)
        → (((q : ℕ) → is_there (look_up (e ∷ l) q) ≡ true → is_there (look_up m q) ≡ true) → length (e ∷ l) ≤ length m) → length (e ∷ l) ≤ length (d ∷ m)
    go true i o j on same =
        let k : e.0 ≡ d.0 = grind (arith, nat_tests) in
        let z = on (λ q t. let u = above_there l e.0 q R.0 t in ap is_there (sym (past_head d m q (λ w. omega arith))) ∙ f q (ap is_there (past_head e l q (λ w. omega arith)) ∙ t)) in
        omega arith
    go false i true j on same =
        let k : d.0 < e.0 = grind (arith, nat_tests) in
        let z = same (λ q t. ap is_there (sym (past_head d m q (λ w. let u = reach q t in omega arith))) ∙ f q t) in
        omega arith
      where
        reach : (q : ℕ) → is_there (look_up (e ∷ l) q) ≡ true → e.0 ≤ q
        reach q t = at (eqb q e.0) refl
          where
            at : (b : Bool) → eqb q e.0 ≡ b → e.0 ≤ q
            at true h = grind (arith, nat_tests)
            at false h = let n : q ≡ e.0 → ⊥ = (λ w. grind (arith, nat_tests)) in let u = above_there l e.0 q R.0 (ap is_there (sym (past_head e l q n)) ∙ t) in omega arith
    go false i false j on same =
        let n : e.0 ≡ d.0 → ⊥ = (λ w. grind (arith, nat_tests)) in
        let k : e.0 < d.0 = grind (arith, nat_tests) in
        let u = above_there m d.0 e.0 S.0 (ap is_there (sym (past_head d m e.0 n)) ∙ f e.0 (at_head e l)) in
        absurd (omega arith)
