-- What stands where a search among entries ends, in the words of maps.
use Rattle.std.proofs.Common.{◌≡◌, ℕ, zero, suc, ◌<◌, ◌≤◌, ◌≢◌, Less, Greater, List, [], ◌∷◌, length, get_or, set, Result, Some, None, Bor, sym, refl, ap, subst, arith}
use Rattle.std.specs.Ordering.{nat_cmp, ordering_index}
use Rattle.std.specs.Fn.{Called, ComputesKey}
use Rattle.std.proofs.lemmas.Fn.{always_returns_same}
use denote.Param.Members.{Mut}
use Rattle.std.specs.List.{insert as inserted_at, remove as removed_at}
use Rattle.std.specs.List.Sorted.{IsBinarySearchResult, IsNonDecreasingBy, IsPartitionPoint}
use Rattle.std.proofs.lemmas.Cmp.{ranked}
use Rattle.std.proofs.lemmas.Bool.Decides.{nat_tests}
use Rattle.model.specs.Maps.{look_up, enter, remove, Above, Rising}
use Rattle.table.specs.declared.tagged.Tagged.{Ghosts}
use Rattle.table.specs.Order.{Ascending}
use Rattle.table.specs.Meaning.{pairs}

-- what a search by a closure that gives the tag answers
pub searched : {E F : Type 0} (tag : E → ℕ) {f : Mut F (Bor E × Unit {0}) ℕ} {s : F} (xs es : List E) (t : ℕ) (r : Result ℕ ℕ)
    → ((key : E → ℕ) → ComputesKey f key s → IsBinarySearchResult (λ e. nat_cmp (key e) t) xs r)
    → ((a : Bor E × Unit {0}) (r : ℕ) (s' : F) → Called f s a r s' → (r ≡ tag a.0.now) × (s' ≡ s))
    → xs ≡ es → IsBinarySearchResult (λ e. nat_cmp (tag e) t) es r
searched tag {f = f} {s = s} xs es t r clause gives same = subst (λ l. IsBinarySearchResult (λ e. nat_cmp (tag e) t) l r) same (clause tag (always_returns_same f (λ a r. r ≡ tag a.0.now) s gives))

-- no entry has the tag t: the tags before p are below it, the others above
pub record Gap {E : Type 0} (tag : E → ℕ) (es : List E) (t p : ℕ) : Type 0 where
  pub below : (k : ℕ) (d : E) → k < p → tag (get_or es k d) < t
  pub above : (k : ℕ) (d : E) → p ≤ k → k < length es → t < tag (get_or es k d)

pub gap : {E : Type 0} (tag : E → ℕ) (es : List E) (t p : ℕ) → Ascending tag es → (IsNonDecreasingBy (λ e. ordering_index (nat_cmp (tag e) t)) es → IsPartitionPoint (λ e. nat_cmp (tag e) t ≡ Less) (λ e. nat_cmp (tag e) t ≡ Greater) es p) → Gap tag es t p
gap {E} tag es t p up parted = record {
  below = λ k d l. ranked _ t _ (sym ((parted rises).0 k d (omega arith) l));
  above = λ k d le l. ranked _ t _ (sym ((parted rises).1 k d le l));
}
  where
    rises : IsNonDecreasingBy (λ e. ordering_index (nat_cmp (tag e) t)) es
    rises i j d le l =
        let u : tag (get_or es i d) ≤ tag (get_or es j d) = grind (arith, up i j d, λ (same : i ≡ j). ap (λ k. tag (get_or es k d)) same) in
        grind (arith, nat_tests)

module _ {E V : Type 0} (g : Ghosts E V) where
  -- ascending as a map, and by places
  above_place : (es : List E) (b k : ℕ) (d : E) → Above b (pairs g es) → k < length es → b < g.tag (get_or es k d)
  above_place [] b k d a l = absurd (omega arith)
  above_place (e ∷ es) b zero d a l = a.0
  above_place (e ∷ es) b (suc k) d a l = above_place es b k d a.1 (omega arith)

  pub ascending_pairs : (es : List E) → Rising (pairs g es) → Ascending g.tag es
  ascending_pairs [] r i j d h = absurd (omega arith)
  ascending_pairs (e ∷ es) r i zero d h = absurd (omega arith)
  ascending_pairs (e ∷ es) r zero (suc j) d h = above_place es (g.tag e) j d r.0 (omega arith)
  ascending_pairs (e ∷ es) r (suc i) (suc j) d h = ascending_pairs es r.1 i j d (omega arith, omega arith)

  tail : (x : E) (es : List E) → Ascending g.tag (x ∷ es) → Ascending g.tag es
  tail x es up i j d h = up (suc i) (suc j) d (omega arith, omega arith)

  -- no entry has the tag
  abbrev Apart : List E → ℕ → Type 0
  Apart es t = (k : ℕ) (d : E) → k < length es → g.tag (get_or es k d) ≢ t

  gap_apart : (es : List E) (t p : ℕ) → Gap g.tag es t p → Apart es t
  gap_apart es t p m k d l e = grind (arith, m.below k d, m.above k d)

  look_apart : (es : List E) (t : ℕ) → Apart es t → look_up (pairs g es) t ≡ None
  unfolding look_up
  look_apart [] t h = refl
  look_apart (x ∷ es) t h = grind (arith, nat_tests, h 0 x, look_apart es t (λ k d l. h (suc k) d (omega arith)))

  remove_apart : (es : List E) (t : ℕ) → Apart es t → remove t (pairs g es) ≡ pairs g es
  unfolding remove
  remove_apart [] t h = refl
  remove_apart (x ∷ es) t h = grind (arith, nat_tests, h 0 x, remove_apart es t (λ k d l. h (suc k) d (omega arith)))

  pub look_gap : (es : List E) (t p : ℕ) → Gap g.tag es t p → look_up (pairs g es) t ≡ None
  look_gap es t p m = look_apart es t (gap_apart es t p m)

  pub remove_gap : (es : List E) (t p : ℕ) → Gap g.tag es t p → remove t (pairs g es) ≡ pairs g es
  remove_gap es t p m = remove_apart es t (gap_apart es t p m)

  pub enter_gap : (es : List E) (p : ℕ) (e : E) → p ≤ length es → Gap g.tag es (g.tag e) p → pairs g (inserted_at es p e) ≡ enter (g.tag e) (g.value e) (pairs g es)
  unfolding enter
  enter_gap [] zero e l m = refl
  enter_gap [] (suc p) e l m = absurd (omega arith)
  enter_gap (x ∷ es) zero e l m = grind (arith, nat_tests, m.above 0 x)
  enter_gap (x ∷ es) (suc p) e l m = grind (arith, nat_tests, m.below 0 x, enter_gap es p e (omega arith) (record { below = λ k d h. m.below (suc k) d (omega arith); above = λ k d h q. m.above (suc k) d (omega arith) (omega arith) }))

  -- where the entry at p has the tag
  pub look_at : (es : List E) (p t : ℕ) (d : E) → Ascending g.tag es → p < length es → g.tag (get_or es p d) ≡ t → look_up (pairs g es) t ≡ Some (g.value (get_or es p d))
  unfolding look_up
  look_at [] p t d up l e = absurd (omega arith)
  look_at (x ∷ es) zero t d up l e = grind (arith, nat_tests)
  look_at (x ∷ es) (suc p) t d up l e = grind (arith, nat_tests, up 0 (suc p) d, look_at es p t d (tail x es up))

  pub enter_at : (es : List E) (p : ℕ) (e d : E) → Ascending g.tag es → p < length es → g.tag (get_or es p d) ≡ g.tag e → pairs g (set es p e) ≡ enter (g.tag e) (g.value e) (pairs g es)
  unfolding enter
  enter_at [] p e d up l q = absurd (omega arith)
  enter_at (x ∷ es) zero e d up l q = grind (arith, nat_tests)
  enter_at (x ∷ es) (suc p) e d up l q = grind (arith, nat_tests, up 0 (suc p) d, enter_at es p e d (tail x es up))

  pub remove_at : (es : List E) (p t : ℕ) (d : E) → Ascending g.tag es → p < length es → g.tag (get_or es p d) ≡ t → pairs g (removed_at es p) ≡ remove t (pairs g es)
  unfolding remove
  remove_at [] p t d up l e = absurd (omega arith)
  remove_at (x ∷ es) zero t d up l e = let rest = remove_apart es t (λ k f m q. omega (arith, up 0 (suc k) f (omega arith, omega arith))) in grind (arith, nat_tests)
  remove_at (x ∷ es) (suc p) t d up l e = grind (arith, nat_tests, up 0 (suc p) d, remove_at es p t d (tail x es up))
