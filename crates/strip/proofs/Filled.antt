-- Lists of entries in any order, no two of one id: where an id stands, one more entry at the end, and the last entry moved into a gap.
use Rattle.std.specs.Option.{option_map}
use Rattle.std.proofs.Common.{◌≡◌, Bool, true, false, IfSome, ℕ, zero, suc, ◌+◌, ◌-◌, ◌<◌, ◌≤◌, cond, eqb, ◌≢◌, List, [], ◌∷◌, ◌++◌, length, get_or, take, set, Some, None, Option, sym, refl, ap, ◌∙◌, subst, ⊎_elim, arith}
use Rattle.std.proofs.lemmas.Bool.{cases_lt}
use Rattle.std.proofs.lemmas.Bool.Decides.{nat_tests}
use Rattle.std.proofs.lemmas.List.{length-set, length-take-le, length_push, take_more, take_all, take_at, set_at, set-append_left, get_or_at, get_or_append_left, get_or_default}
use Rattle.model.specs.Maps.{is_there, look_up}
use Rattle.model.proofs.Entering.{look_tail}
use Rattle.strip.specs.Bodies.{Distinct, later, place_of, filled}
use Rattle.strip.specs.Arranged.{Apart, look_none}

module _ {X : Type 0} where
  -- at the place of an id stands its entry
  later_place : (x : ℕ × X) (xs : List (ℕ × X)) (d : ℕ × X) (p : ℕ) → get_or xs p d ≡ get_or (x ∷ xs) (p + 1) d
  later_place x xs d p = let k : suc p ≡ p + 1 = omega arith in ap (λ i. get_or (x ∷ xs) i d) k

  pub look_by_place : (es : List (ℕ × X)) (t : ℕ) (d : ℕ × X) → look_up es t ≡ option_map (λ p. (get_or es p d).1) (place_of es t)
  unfolding look_up
  look_by_place [] t d = refl
  look_by_place (x ∷ xs) t d = go (eqb t x.0) (place_of xs t) (look_by_place xs t d)
    where
      go : (b : Bool) (o : Option ℕ) → look_up xs t ≡ option_map (λ p. (get_or xs p d).1) o → cond b (Some x.1) (look_up xs t) ≡ option_map (λ p. (get_or (x ∷ xs) p d).1) (cond b (Some 0) (later o))
      go true o e = refl
      go false None e = e
      go false (Some p) e = e ∙ ap (λ y. Some y.1) (later_place x xs d p)

  id_by_place : (es : List (ℕ × X)) (t : ℕ) (d : ℕ × X) → IfSome (place_of es t) (λ p. (get_or es p d).0 ≡ t)
  id_by_place [] t d = tt
  id_by_place (x ∷ xs) t d = go (eqb t x.0) refl (place_of xs t) (id_by_place xs t d)
    where
      go : (b : Bool) → eqb t x.0 ≡ b → (o : Option ℕ) → IfSome o (λ p. (get_or xs p d).0 ≡ t) → IfSome (cond b (Some 0) (later o)) (λ p. (get_or (x ∷ xs) p d).0 ≡ t)
      go true i o e = grind (arith, nat_tests)
      go false i None e = tt
      go false i (Some p) e = ap (λ y. y.0) (sym (later_place x xs d p)) ∙ e

  pub id_at_place : (es : List (ℕ × X)) (t p : ℕ) (d : ℕ × X) → place_of es t ≡ Some p → (get_or es p d).0 ≡ t
  id_at_place es t p d e = subst (λ o. IfSome o (λ p. (get_or es p d).0 ≡ t)) e (id_by_place es t d)

  pub there_place : (es : List (ℕ × X)) (t : ℕ) (d : ℕ × X) → is_there (look_up es t) ≡ is_there (place_of es t)
  there_place es t d = ap is_there (look_by_place es t d) ∙ mapped (place_of es t)
    where
      mapped : (o : Option ℕ) → is_there (option_map (λ p. (get_or es p d).1) o) ≡ is_there o
      mapped None = refl
      mapped (Some p) = refl

  -- no two of one id, one entry on
  look_apart : (es : List (ℕ × X)) (t : ℕ) → look_up es t ≡ None → Apart es t
  look_apart [] t e k d l = absurd (omega arith)
  look_apart (x ∷ xs) t e zero d l = λ z. (look_tail x xs t e).0 (sym z)
  look_apart (x ∷ xs) t e (suc k) d l = look_apart xs t (look_tail x xs t e).1 k d (omega arith)

  distinct_tail : (x : ℕ × X) (xs : List (ℕ × X)) → Distinct (x ∷ xs) → Distinct xs
  distinct_tail x xs ne i j d h = ne (suc i) (suc j) d (omega arith, omega arith, h.2)

  distinct_head : (x : ℕ × X) (xs : List (ℕ × X)) → Distinct (x ∷ xs) → look_up xs x.0 ≡ None
  distinct_head x xs ne = look_none xs x.0 (λ k d l z. ne 0 (suc k) d (omega arith, omega arith, sym z))

  distinct_cons : (x : ℕ × X) (xs : List (ℕ × X)) → look_up xs x.0 ≡ None → Distinct xs → Distinct (x ∷ xs)
  distinct_cons x xs n ne zero zero d h = absurd (omega arith)
  distinct_cons x xs n ne (suc i) zero d h = absurd (omega arith)
  distinct_cons x xs n ne zero (suc j) d h = look_apart xs x.0 n j d (omega arith) (sym h.2)
  distinct_cons x xs n ne (suc i) (suc j) d h = ne i j d (omega arith, omega arith, h.2)

  -- one more entry, whose id is new
  pub look_push : (es : List (ℕ × X)) (e : ℕ × X) (t : ℕ) → look_up es e.0 ≡ None → look_up (es ++ e ∷ []) t ≡ cond (eqb t e.0) (Some e.1) (look_up es t)
  unfolding look_up
  look_push [] e t n = refl
  look_push (x ∷ xs) e t n = let r = look_tail x xs e.0 n in grind (arith, nat_tests, look_push xs e t r.1)

  pub distinct_push : (es : List (ℕ × X)) (e : ℕ × X) → Distinct es → look_up es e.0 ≡ None → Distinct (es ++ e ∷ [])
  distinct_push [] e ne n = distinct_cons e [] n ne
  distinct_push (x ∷ xs) e ne n =
      let r = look_tail x xs e.0 n in
      let h = distinct_head x xs ne in
      let p = look_push xs e x.0 r.1 in
      distinct_cons x (xs ++ e ∷ []) (grind (arith, nat_tests)) (distinct_push xs e (distinct_tail x xs ne) r.1)

  distinct_front : (xs : List (ℕ × X)) (l : ℕ × X) → Distinct (xs ++ l ∷ []) → Distinct xs
  distinct_front xs l ne i j d h =
      let i_in = h.0 in
      let j_in = h.1 in
      ne i j d (i_in, omega (arith, length_push xs l), ap (λ e. e.0) (get_or_append_left xs (l ∷ []) d i (omega arith)) ∙ h.2 ∙ ap (λ e. e.0) (sym (get_or_append_left xs (l ∷ []) d j j_in)))

  distinct_last : (xs : List (ℕ × X)) (l : ℕ × X) → Distinct (xs ++ l ∷ []) → look_up xs l.0 ≡ None
  distinct_last xs l ne = look_none xs l.0 (λ k d i z. ne k (length xs) d (i, omega (arith, length_push xs l), ap (λ e. e.0) (get_or_append_left xs (l ∷ []) d k i) ∙ z ∙ ap (λ e. e.0) (sym (get_or_at xs l [] d (length xs) refl))))

  -- a new entry over the one at p
  look_set_none : (xs : List (ℕ × X)) (p : ℕ) (l : ℕ × X) (q : ℕ) → look_up xs q ≡ None → q ≢ l.0 → look_up (set xs p l) q ≡ None
  unfolding look_up
  look_set_none [] p l q n o = refl
  look_set_none (x ∷ xs) zero l q n o = grind (arith, nat_tests)
  look_set_none (x ∷ xs) (suc p) l q n o = let r = look_tail x xs q n in grind (arith, nat_tests, look_set_none xs p l q r.1 o)

  distinct_set : (xs : List (ℕ × X)) (p : ℕ) (l : ℕ × X) → Distinct xs → look_up xs l.0 ≡ None → Distinct (set xs p l)
  distinct_set [] p l ne n = ne
  distinct_set (x ∷ xs) zero l ne n = distinct_cons l xs (look_tail x xs l.0 n).1 (distinct_tail x xs ne)
  distinct_set (x ∷ xs) (suc p) l ne n =
      let r = look_tail x xs l.0 n in
      distinct_cons x (set xs p l) (look_set_none xs p l x.0 (distinct_head x xs ne) (λ z. r.0 (sym z))) (distinct_set xs p l (distinct_tail x xs ne) r.1)

  look_set : (xs : List (ℕ × X)) (p : ℕ) (l d : ℕ × X) (t u : ℕ) → Distinct xs → look_up xs l.0 ≡ None → p < length xs → (get_or xs p d).0 ≡ t
      → look_up (set xs p l) u ≡ cond (eqb u l.0) (Some l.1) (cond (eqb u t) None (look_up xs u))
  unfolding look_up
  look_set [] p l d t u ne n lp e = absurd (omega arith)
  look_set (x ∷ xs) zero l d t u ne n lp e = let h = distinct_head x xs ne in grind (arith, nat_tests)
  look_set (x ∷ xs) (suc p) l d t u ne n lp e =
      let r = look_tail x xs l.0 n in
      let h = look_apart xs x.0 (distinct_head x xs ne) p d (omega arith) in
      grind (arith, nat_tests, look_set xs p l d t u (distinct_tail x xs ne) r.1 (omega arith) e)

  -- a list that is not empty has a last entry
  by_last : (P : List (ℕ × X) → Type 0) → ((xs : List (ℕ × X)) (l : ℕ × X) → P (xs ++ l ∷ [])) → (es : List (ℕ × X)) → 0 < length es → P es
  by_last P f [] l = absurd (omega arith)
  by_last P f (x ∷ xs) l =
      let es = x ∷ xs in
      let k : length xs + 1 ≡ length es = omega arith in
      let e : es ≡ take (length xs) es ++ get_or es (length xs) x ∷ [] = sym (take_all (length xs + 1) es (omega arith)) ∙ take_more es (length xs) x (omega arith) in
      subst P (sym e) (f (take (length xs) es) (get_or es (length xs) x))

  -- the last entry moved over the one at p
  pub filled_is : (es : List (ℕ × X)) (p : ℕ) (d : ℕ × X) → 0 < length es → filled es p ≡ take (length es - 1) (set es p (get_or es (length es - 1) d))
  filled_is [] p d l = absurd (omega arith)
  filled_is (x ∷ xs) p d l =
      let k : length xs ≡ length (x ∷ xs) - 1 = omega arith in
      ap (λ y. take (length xs) (set (x ∷ xs) p y)) (get_or_default (x ∷ xs) (length xs) x d (omega arith)) ∙ ap (λ i. take i (set (x ∷ xs) p (get_or (x ∷ xs) i d))) k

  filled_push : (xs : List (ℕ × X)) (l : ℕ × X) (p : ℕ) → filled (xs ++ l ∷ []) p ≡ take (length xs) (set (xs ++ l ∷ []) p l)
  filled_push xs l p =
      let n = length_push xs l in
      let k : length (xs ++ l ∷ []) - 1 ≡ length xs = omega arith in
      filled_is (xs ++ l ∷ []) p l (omega arith) ∙ ap (λ i. take i (set (xs ++ l ∷ []) p (get_or (xs ++ l ∷ []) i l))) k ∙ ap (λ y. take (length xs) (set (xs ++ l ∷ []) p y)) (get_or_at xs l [] l (length xs) refl)

  filled_below : (xs : List (ℕ × X)) (l : ℕ × X) (p : ℕ) → p < length xs → filled (xs ++ l ∷ []) p ≡ set xs p l
  filled_below xs l p lt = filled_push xs l p ∙ ap (take (length xs)) (set-append_left xs (l ∷ []) p l lt) ∙ take_at (set xs p l) (l ∷ []) (length xs) (length-set xs p l)

  filled_last : (xs : List (ℕ × X)) (l : ℕ × X) (p : ℕ) → length xs ≡ p → filled (xs ++ l ∷ []) p ≡ xs
  filled_last xs l p e = filled_push xs l p ∙ ap (take (length xs)) (set_at xs l [] l p e) ∙ take_at xs (l ∷ []) (length xs) refl

  pub length_filled : (es : List (ℕ × X)) (p : ℕ) → length (filled es p) ≡ length es - 1
  length_filled [] p = refl
  length_filled (x ∷ xs) p = let l = length-set (x ∷ xs) p (get_or (x ∷ xs) (length xs) x) in length-take-le (length xs) (set (x ∷ xs) p (get_or (x ∷ xs) (length xs) x)) (omega arith) ∙ omega arith

  pub distinct_filled : (es : List (ℕ × X)) (p : ℕ) → p < length es → Distinct es → Distinct (filled es p)
  distinct_filled es p lp =
      by_last (λ es. p < length es → Distinct es → Distinct (filled es p)) (λ xs l lt ne.
      let n = length_push xs l in
      ⊎_elim
      (λ (h : p < length xs). subst Distinct (sym (filled_below xs l p h)) (distinct_set xs p l (distinct_front xs l ne) (distinct_last xs l ne)))
      (λ (h : length xs ≤ p). subst Distinct (sym (filled_last xs l p (omega arith))) (distinct_front xs l ne))
      (cases_lt p (length xs))) es (omega arith) lp

  pub look_filled : (es : List (ℕ × X)) (p t u : ℕ) (d : ℕ × X) → Distinct es → p < length es → (get_or es p d).0 ≡ t → look_up (filled es p) u ≡ cond (eqb u t) None (look_up es u)
  look_filled es p t u d ne lp e =
      by_last (λ es. Distinct es → p < length es → (get_or es p d).0 ≡ t → look_up (filled es p) u ≡ cond (eqb u t) None (look_up es u)) (λ xs l ne lt at.
      let n = length_push xs l in
      let no = distinct_last xs l ne in
      let all = look_push xs l u no in
      ⊎_elim
      (λ (h : p < length xs).
      let is : (get_or xs p d).0 ≡ t = ap (λ e. e.0) (sym (get_or_append_left xs (l ∷ []) d p h)) ∙ at in
      let o = look_apart xs l.0 no p d h in
      let s = look_set xs p l d t u (distinct_front xs l ne) no h is in
      ap (λ fs. look_up fs u) (filled_below xs l p h) ∙ grind (arith, nat_tests))
      (λ (h : length xs ≤ p).
      let k : length xs ≡ p = omega arith in
      let is : l.0 ≡ t = ap (λ e. e.0) (sym (get_or_at xs l [] d p k)) ∙ at in
      ap (λ fs. look_up fs u) (filled_last xs l p k) ∙ grind (arith, nat_tests))
      (cases_lt p (length xs))) es (omega arith) ne lp e
