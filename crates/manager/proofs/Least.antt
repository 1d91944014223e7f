-- The least entry of a conflict table, found from the first entry on.
use Rattle.std.proofs.Common.{◌≡◌, ℕ, ◌<◌, ◌≤◌, List, [], ◌∷◌, map, Some, None, Option, length, option_map, refl, ap, ◌∙◌, arith}
use Rattle.std.proofs.lemmas.Bool.Decides.{nat_tests}
use Rattle.std.proofs.lemmas.Iterator.{YieldsList}
use Rattle.std.proofs.lemmas.Iterator.Consumers.{reduce_from_yields_List}
use Rattle.std.specs.Fn.{Called}
use Rattle.std.specs.Iterator.{FoldTurn, ReducesItems}
use denote.Param.Members.{Mut}
use Rattle.std.specs.List.{fold, reduce, FoldsTo}
use Rattle.table.specs.declared.tagged.Entry.{Entry}
use Rattle.model.specs.Maps.{look_up, remove, Above, Rising}
use Rattle.model.specs.Managers.{lesser_of, least_entry}
use Rattle.manager.specs.Memory.{pair_of}
use Rattle.manager.specs.Conflicts.{lesser}

lesser_twice : (c d : Entry ℕ) (o : Option (ℕ × ℕ)) → lesser_of (pair_of c) (lesser_of (pair_of d) o) ≡ lesser_of (pair_of (lesser c d)) o
lesser_twice c d None = grind (arith, nat_tests)
lesser_twice c d (Some e) = grind (arith, nat_tests)

least_of : (c : Entry ℕ) (es : List (Entry ℕ)) → lesser_of (pair_of c) (least_entry (map pair_of es)) ≡ Some (pair_of (fold lesser c es))
unfolding least_entry
least_of c [] = refl
least_of c (d ∷ es) = lesser_twice c d (least_entry (map pair_of es)) ∙ least_of (lesser c d) es

pub least_is : (es : List (Entry ℕ)) → least_entry (map pair_of es) ≡ option_map pair_of (reduce lesser es)
unfolding least_entry
least_is [] = refl
least_is (c ∷ es) = least_of c es

-- a closure gives the lesser of two entries: what `reduce` makes by it
module _ {F : Type 0} (g : Mut F (Entry ℕ × (Entry ℕ × Unit {0})) (Entry ℕ)) (f : F) (tells : (c d e : Entry ℕ) (h : F) → Called g f (c, (d, tt)) e h → (h ≡ f) × (e ≡ lesser c d)) where
  turns : (es : List (Entry ℕ)) (h q : F) (c d : Entry ℕ) → h ≡ f → FoldsTo {P = F × Entry ℕ} (FoldTurn g) (h, c) es (q, d) → FoldsTo (λ x y z. z ≡ lesser x y) c es d
  turns [] h q c d e r = ap (λ (p : F × Entry ℕ). p.1) r
  turns (x ∷ es) h q c d e r =
      let told = tells c x r.0.1 r.0.0 (rw e at r.1) in
      (r.0.1, told.1, turns es r.0.0 q r.0.1 d told.0 r.2)

  pub least_from_reduces : {S : Type 0} {steps : S → Option (Entry ℕ) → S → Type 0} {all : List (Entry ℕ)} (s : S) (r : Option (Entry ℕ)) →
      ReducesItems steps g s f r → YieldsList steps (λ x. x) s all → r ≡ reduce lesser all
  least_from_reduces s None p y = reduce_from_yields_List lesser s None p y
  least_from_reduces s (Some d) p y = reduce_from_yields_List lesser s (Some d) (p.0, p.1, p.3, turns p.1 f p.2 p.0 d refl p.4) y

least_above : (l : List (ℕ × ℕ)) (k : ℕ) (e : ℕ × ℕ) → Above k l → least_entry l ≡ Some e → k < e.0
unfolding least_entry
least_above [] k e a h = absurd (grind arith)
least_above (f ∷ l) k e a h = go (least_entry l) h (least_above l k e a.1)
  where
    go : (o : Option (ℕ × ℕ)) → lesser_of f o ≡ Some e → (o ≡ Some e → k < e.0) → k < e.0
    go None h r = let b = a.0 in grind (arith, nat_tests)
    go (Some d) h r = let b = a.0 in grind (arith, nat_tests)

-- the least entry stands in the table
pub least_stands : (l : List (ℕ × ℕ)) (e : ℕ × ℕ) → Rising l → least_entry l ≡ Some e → look_up l e.0 ≡ Some e.1
unfolding least_entry look_up
least_stands [] e u h = absurd (grind arith)
least_stands (f ∷ l) e u h = go (least_entry l) h (least_above l f.0 e u.0) (least_stands l e u.1)
  where
    go : (o : Option (ℕ × ℕ)) → lesser_of f o ≡ Some e → (o ≡ Some e → f.0 < e.0) → (o ≡ Some e → look_up l e.0 ≡ Some e.1) → look_up (f ∷ l) e.0 ≡ Some e.1
    go None h b r = grind (arith, nat_tests)
    go (Some d) h b r = grind (arith, nat_tests)

-- a table with entries has a least one
pub least_some : (l : List (ℕ × ℕ)) → least_entry l ≡ None → length l ≡ 0
unfolding least_entry
least_some [] h = refl
least_some (e ∷ l) h = go (least_entry l) h
  where
    go : (o : Option (ℕ × ℕ)) → lesser_of e o ≡ None → length (e ∷ l) ≡ 0
    go None h = absurd (grind arith)
    go (Some d) h = absurd (grind (arith, nat_tests))

remove_most : (k : ℕ) (l : List (ℕ × ℕ)) → length (remove k l) ≤ length l
unfolding remove
remove_most k [] = omega arith
remove_most k (e ∷ l) = let r = remove_most k l in grind (arith, nat_tests)

-- taking an entry out leaves fewer
pub remove_less : (k n : ℕ) (l : List (ℕ × ℕ)) → look_up l k ≡ Some n → length (remove k l) < length l
unfolding remove look_up
remove_less k n [] h = absurd (grind arith)
remove_less k n (e ∷ l) h = let m = remove_most k l in let r = remove_less k n l in grind (arith, nat_tests)
