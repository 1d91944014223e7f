-- Making and closing a gap among the first n elements of a list, as a copy within it does.
use Rattle.std.proofs.Common.{◌≡◌, ℕ, suc, ◌+◌, ◌-◌, ◌<◌, ◌≤◌, List, [], ◌∷◌, ◌++◌, length, take, drop, set, refl, subst, append_assoc, arith}
use Rattle.std.proofs.lemmas.List.{take-take, drop-take, set-append_left, length-take-le, take_more_set}
use Rattle.std.proofs.Math.Seq.{take-set-lt}
use Rattle.std.specs.List.{insert, remove, copy_within}

made : {X : Type 0} (s : List X) (p m : ℕ) (e : X) → p + m < length s → set (copy_within s p (p + m) (p + 1)) p e ≡ insert (take (p + m) s) p e ++ drop (p + m + 1) s
made s p m e lt =
    let long = length-take-le (p + 1) s (omega arith) in
    let k : p + m - p ≡ m = omega arith in
    let j : p + 1 + m ≡ p + m + 1 = omega arith in
    let rest = drop (p + m + 1) s in
    rw (k, j, append_assoc (take (p + 1) s) (take m (drop p s)) rest, set-append_left (take (p + 1) s) (take m (drop p s) ++ rest) p e (omega arith), ← take-set-lt (p + 1) s p e (omega arith), take_more_set s p e (omega arith), take-take p (p + m) s (omega arith), drop-take p m s, append_assoc (take p s) (e ∷ []) (take m (drop p s) ++ rest), append_assoc (take p s) (e ∷ take m (drop p s)) rest) refl

-- the elements from p on are moved up by one, and e is put at p
pub gap_made : {X : Type 0} (s : List X) (p n : ℕ) (e : X) → p ≤ n → n < length s → set (copy_within s p n (p + 1)) p e ≡ insert (take n s) p e ++ drop (n + 1) s
gap_made s p n e le lt = subst (λ n. set (copy_within s p n (p + 1)) p e ≡ insert (take n s) p e ++ drop (n + 1) s) {x = p + (n - p)} (omega arith) (made s p (n - p) e (omega arith))

closed : {X : Type 0} (s : List X) (p m : ℕ) → copy_within s (p + 1) (suc p + m) p ≡ remove (take (suc p + m) s) p ++ drop (p + m) s
closed s p m =
    let k : suc p + m - (p + 1) ≡ m = omega arith in
    let j : p + 1 ≡ suc p = omega arith in
    rw (k, j, take-take p (suc p + m) s (omega arith), drop-take (suc p) m s) refl

-- the elements after p are moved down by one
pub gap_closed : {X : Type 0} (s : List X) (p n : ℕ) → p < n → copy_within s (p + 1) n p ≡ remove (take n s) p ++ drop (n - 1) s
gap_closed s p n lt =
    let m = n - suc p in
    let e : suc p + m - 1 ≡ p + m = omega arith in
    subst (λ n. copy_within s (p + 1) n p ≡ remove (take n s) p ++ drop (n - 1) s) {x = suc p + m} (omega arith) (rw e (closed s p m))
