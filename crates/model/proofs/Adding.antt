-- A key is added to those that are held.
use Rattle.std.proofs.Common.{◌≡◌, ℕ, ◌+◌, ◌<◌, ◌≤◌, Bool, true, false, cond, ◌||◌, eqb, List, [], ◌∷◌, ◌++◌, length, take, set, Ok, Err, sym, refl, ap, ◌∙◌, arith, length-take, not, ◌&&◌, leb}
use Rattle.std.proofs.lemmas.List.{take_more_set}
use Rattle.std.proofs.lemmas.Bool.{le-leb, lt-leb}
use Rattle.std.proofs.lemmas.Bool.Decides.{nat_tests}
use Rattle.std.specs.List.{list_any}
use Rattle.model.specs.declared.words.Full.{Full}
use Rattle.model.specs.Transactions.{member, with_key}
use Rattle.model.specs.KeyLists.{Adding, adding, add_in}

module _ (k : ℕ) where
  -- a test against k, from either side
  same_test : (x : ℕ) → eqb x k ≡ eqb k x
  same_test x = grind (arith, nat_tests)

  any_is : (xs : List ℕ) → list_any (λ y. eqb y k) xs ≡ member k xs
  any_is [] = refl
  any_is (x ∷ xs) = ap (λ b. b || list_any (λ y. eqb y k) xs) (same_test x) ∙ ap (λ b. eqb k x || b) (any_is xs)

  -- what `contains` answers of the keys that are held
  pub contains_is : (xs ks : List ℕ) (r : Bool) → xs ≡ ks → r ≡ list_any (λ y. eqb y k) xs → member k ks ≡ r
  contains_is xs ks r e h = ap (member k) (sym e) ∙ (sym (any_is xs) ∙ sym h)

  held_here : (b : Bool) (x : ℕ) (xs r : List ℕ) → (b || member k xs) ≡ true → (member k xs ≡ true → r ≡ xs) → cond b (x ∷ xs) (x ∷ r) ≡ x ∷ xs
  held_here true x xs r e h = refl
  held_here false x xs r e h = rw (h e) refl

  held : (ks : List ℕ) → member k ks ≡ true → with_key k ks ≡ ks
  held [] e = absurd (let z : ◌≡◌ {A = ℕ} 0 1 = cc in omega arith)
  held (x ∷ xs) e = held_here (eqb k x) x xs (with_key k xs) e (held xs)

  new_here : (b : Bool) (x : ℕ) (xs r : List ℕ) → (b || member k xs) ≡ false → (member k xs ≡ false → r ≡ xs ++ k ∷ []) → cond b (x ∷ xs) (x ∷ r) ≡ x ∷ (xs ++ k ∷ [])
  new_here true x xs r e h = absurd (let z : ◌≡◌ {A = ℕ} 0 1 = cc in omega arith)
  new_here false x xs r e h = rw (h e) refl

  new : (ks : List ℕ) → member k ks ≡ false → with_key k ks ≡ ks ++ k ∷ []
  new [] e = refl
  new (x ∷ xs) e = new_here (eqb k x) x xs (with_key k xs) e (new xs)

  -- the first h of the places are held
  module _ (l : List ℕ) (h : ℕ) where
    pub add_held : member k (take h l) ≡ true → adding (Ok tt) (take h l) ≡ add_in k (take h l)
    add_held m = rw (m, held (take h l) m) refl

    module _ (s : length l ≡ 16) (m : member k (take h l) ≡ false) where
      pub add_new : h < 16 → adding (Ok tt) (take (h + 1) (set l h k)) ≡ add_in k (take h l)
      add_new f = let t = length-take h l in rw (m, lt-leb 16 (length (take h l)) (omega arith), new (take h l) m, take_more_set l h k (omega arith)) refl

-- what an answer tells of the test, and of the keys that are left
module _ (k : ℕ) (ks left : List ℕ) where
  abbrev full : Bool
  full = not (member k ks) && leb 16 (length ks)

  added_by : (t : Bool) → adding (Ok tt) left ≡ cond t (adding (Err (record {})) ks) (adding (Ok tt) (with_key k ks)) → (t ≡ false) × (left ≡ with_key k ks)
  added_by true e = absurd (let h = ap (λ (o : Adding). o.answer) e in grind arith)
  added_by false e = (refl, ap (λ (o : Adding). o.left) e)

  pub key_added : adding (Ok tt) left ≡ add_in k ks → (full ≡ false) × (left ≡ with_key k ks)
  key_added e = added_by full e

  refused_by : (w : Full) (t : Bool) → adding (Err w) left ≡ cond t (adding (Err (record {})) ks) (adding (Ok tt) (with_key k ks)) → t ≡ true
  refused_by w true e = refl
  refused_by w false e = absurd (let h = ap (λ (o : Adding). o.answer) e in grind arith)

  pub key_refused : (w : Full) → adding (Err w) left ≡ add_in k ks → full ≡ true
  key_refused w e = refused_by w full e
