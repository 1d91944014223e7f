-- What stands in a map after a change, and that two maps are one where every look-up in them is the same.
use Rattle.std.proofs.Common.{◌≡◌, ℕ, ◌+◌, ◌≤◌, cond, eqb, ◌≢◌, List, [], ◌∷◌, length, Some, None, refl, arith}
use Rattle.std.proofs.lemmas.Bool.Decides.{nat_tests}
use Rattle.model.specs.Maps.{look_up, enter, remove, Above, Rising}

module _ {X : Type 0} where
  pub above_none : (l : List (ℕ × X)) (b q : ℕ) → q ≤ b → Above b l → look_up l q ≡ None
  unfolding look_up
  above_none [] b q h a = refl
  above_none (e ∷ l) b q h a = grind (arith, nat_tests, above_none l b q h a.1)

  pub look_enter : (k : ℕ) (x : X) (l : List (ℕ × X)) (q : ℕ) → look_up (enter k x l) q ≡ cond (eqb q k) (Some x) (look_up l q)
  unfolding look_up enter
  look_enter k x [] q = refl
  look_enter k x (e ∷ l) q = grind (arith, nat_tests, look_enter k x l q)

  pub look_remove : (k : ℕ) (l : List (ℕ × X)) (q : ℕ) → look_up (remove k l) q ≡ cond (eqb q k) None (look_up l q)
  unfolding look_up remove
  look_remove k [] q = grind (arith, nat_tests)
  look_remove k (e ∷ l) q = grind (arith, nat_tests, look_remove k l q)

  pub look_tail : (e : ℕ × X) (l : List (ℕ × X)) (q : ℕ) → look_up (e ∷ l) q ≡ None → (q ≢ e.0) × (look_up l q ≡ None)
  unfolding look_up
  look_tail e l q n = grind (arith, nat_tests)

  pub length_enter_new : (k : ℕ) (x : X) (l : List (ℕ × X)) → look_up l k ≡ None → length (enter k x l) ≡ length l + 1
  unfolding enter look_up
  length_enter_new k x [] n = refl
  length_enter_new k x (e ∷ l) n = let t = look_tail e l k n in grind (arith, nat_tests, length_enter_new k x l t.1)

  pair_eq : (x y : ℕ × X) → x.0 ≡ y.0 → x.1 ≡ y.1 → x ≡ y
  pair_eq x y p q = grind arith

  -- ascending lists with equal look-ups are equal
  pub same_maps : (xs ys : List (ℕ × X)) → Rising xs → Rising ys → ((q : ℕ) → look_up xs q ≡ look_up ys q) → xs ≡ ys
  unfolding look_up
  same_maps [] [] up vp same = refl
  same_maps [] (y ∷ ys) up vp same = grind (arith, nat_tests, same y.0)
  same_maps (x ∷ xs) [] up vp same = grind (arith, nat_tests, same x.0)
  same_maps (x ∷ xs) (y ∷ ys) up vp same =
      let sx = same x.0 in
      let sy = same y.0 in
      let ax = above_none xs x.0 y.0 in
      let ay = above_none ys y.0 x.0 in
      let k : x.0 ≡ y.0 = grind (arith, nat_tests) in
      let v : x.1 ≡ y.1 = grind (arith, nat_tests) in
      let tails : xs ≡ ys = same_maps xs ys up.1 vp.1 (λ t. let a = above_none xs x.0 t in let b = above_none ys y.0 t in let s = same t in grind (arith, nat_tests)) in
      let heads = pair_eq x y k v in
      cc
