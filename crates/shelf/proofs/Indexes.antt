-- Index numbers that move and records that are written: what the index names after it. Assumes nothing.
use Rattle.std.proofs.Common.{◌≡◌, ◌≢◌, ℕ, zero, suc, ◌<◌, ◌≤◌, eqb, List, [], ◌∷◌, length, get_or, take, set, sym, refl, ap, ◌∙◌, ⊎_elim, arith}
use Rattle.std.proofs.lemmas.Bool.{cases_lt, cases_eq}
use Rattle.std.proofs.lemmas.List.{length-map, length-set, length-take, get_or-map, get_or-take, get_or_default, get_or-set_same, get_or-set_other, map-append, take-map, drop-map, same_lists}
use Rattle.std.proofs.lemmas.Bool.Decides.{Decides-eqb, nat_tests}
use Rattle.std.proofs.lemmas.Map.Keys.{IsDistinct-IsPermutation}
use Rattle.std.proofs.lemmas.Map.Made.{AllPairs-from_IsDistinct, IsDistinct-from_AllPairs}
use Rattle.std.specs.List.{All, insert, remove}
use Rattle.std.specs.List.Sorted.{IsPermutation}
use Rattle.model.specs.declared.words.Record.{Record}
use Rattle.shelf.specs.Index.{Apart, named}

-- numbers that are apart stay so in another order
pub apart_any : (xs : List ℕ) (i j : ℕ) → Apart xs → i ≢ j → i < length xs → j < length xs → get_or xs i 0 ≢ get_or xs j 0
apart_any xs i j a n h g e = ⊎_elim (λ (l : i < j). a i j 0 l g e) (λ (l : j ≤ i). a j i 0 (omega arith) h (sym e)) (cases_lt i j)

pub take_apart : (n : ℕ) (xs : List ℕ) → Apart xs → Apart (take n xs)
take_apart n xs a i j d h g = let l = length-take n xs in rw (get_or-take n xs i d (omega arith), get_or-take n xs j d (omega arith)) (a i j d h (omega arith))

pub apart_permutation : (xs ys : List ℕ) → IsPermutation xs ys → Apart xs → Apart ys
apart_permutation xs ys p a = AllPairs-from_IsDistinct Decides-eqb ys (IsDistinct-IsPermutation eqb (λ x y. grind (arith, nat_tests)) xs ys p (IsDistinct-from_AllPairs Decides-eqb xs a))

module _ {V : Type 0} where
  pub named_length : (rs : List (Record V)) (xs : List ℕ) → All (λ i. i < length rs) xs → length (named rs xs) ≡ length xs
  named_length [] [] a = refl
  named_length [] (x ∷ xs) a = absurd (let h = a 0 0 (omega arith) in omega arith)
  named_length (r ∷ rs) xs a = length-map xs (λ i. get_or (r ∷ rs) i r)

  pub named_at : (rs : List (Record V)) (xs : List ℕ) (i : ℕ) (d : Record V) → All (λ i. i < length rs) xs → i < length xs → get_or (named rs xs) i d ≡ get_or rs (get_or xs i 0) d
  named_at [] xs i d a h = absurd (let l = a i 0 h in omega arith)
  named_at (r ∷ rs) xs i d a h = get_or-map (λ j. get_or (r ∷ rs) j r) xs i 0 d h ∙ get_or_default (r ∷ rs) (get_or xs i 0) r d (a i 0 h)

  -- a record is written to the place q
  module _ (rs : List (Record V)) (xs : List ℕ) (q : ℕ) (e : Record V) (a : All (λ i. i < length rs) xs) (h : q < length rs) where
    pub inside_set : All (λ i. i < length (set rs q e)) xs
    inside_set k d g = let n = length-set rs q e in let i = a k d g in omega arith

    -- which no number names
    pub named_other : ((k : ℕ) → k < length xs → get_or xs k 0 ≢ q) → named (set rs q e) xs ≡ named rs xs
    named_other other =
        let m = named_length (set rs q e) xs inside_set in
        let n = named_length rs xs a in
        same_lists (named (set rs q e) xs) (named rs xs) (omega arith)
        (λ k d l. named_at (set rs q e) xs k d inside_set (omega arith) ∙ (get_or-set_other rs q (get_or xs k 0) e d (other k (omega arith)) ∙ sym (named_at rs xs k d a (omega arith))))

    -- which the number at p names
    pub named_set : (p : ℕ) → p < length xs → q ≡ get_or xs p 0 → Apart xs → named (set rs q e) xs ≡ set (named rs xs) p e
    named_set p g is apart =
        let m = named_length (set rs q e) xs inside_set in
        let n = named_length rs xs a in
        let o = length-set (named rs xs) p e in
        same_lists (named (set rs q e) xs) (set (named rs xs) p e) (omega arith)
        (λ k d l.
        named_at (set rs q e) xs k d inside_set (omega arith)
        ∙ ⊎_elim
        (λ (s : k ≡ p). ap (λ j. get_or (set rs q e) (get_or xs j 0) d) s ∙ (ap (λ j. get_or (set rs q e) j d) (sym is) ∙ (get_or-set_same rs q e d h ∙ (sym (get_or-set_same (named rs xs) p e d (omega arith)) ∙ ap (λ j. get_or (set (named rs xs) p e) j d) (sym s)))))
        (λ (s : k ≡ p → ⊥).
        get_or-set_other rs q (get_or xs k 0) e d (λ z. apart_any xs k p apart s (omega arith) g (z ∙ is)) ∙ (sym (named_at rs xs k d a (omega arith)) ∙ sym (get_or-set_other (named rs xs) p k e d s)))
        (cases_eq k p))

  -- a number goes to p, or is taken out
  pub named_insert : (rs : List (Record V)) (xs : List ℕ) (p q : ℕ) (d : Record V) → q < length rs → named rs (insert xs p q) ≡ insert (named rs xs) p (get_or rs q d)
  named_insert [] xs p q d h = absurd (omega arith)
  named_insert (r ∷ rs) xs p q d h = rw (map-append, take-map, drop-map, get_or_default (r ∷ rs) q d r h) refl

  pub named_remove : (rs : List (Record V)) (xs : List ℕ) (p : ℕ) → named rs (remove xs p) ≡ remove (named rs xs) p
  named_remove [] xs zero = refl
  named_remove [] xs (suc p) = refl
  named_remove (r ∷ rs) xs p = rw (map-append, take-map, drop-map) refl
