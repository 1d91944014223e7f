-- One number that moves in an index. Assumes nothing.
use Rattle.std.proofs.Common.{◌≡◌, ℕ, ◌+◌, ◌-◌, ◌<◌, ◌≤◌, List, ◌++◌, length, get_or, take, drop, sym, refl, ap, ◌∙◌, arith, rules}
use Rattle.std.proofs.lemmas.List.{take-take, places, same_lists}
use Rattle.std.proofs.lemmas.Slice.{take-put_mid}
use Rattle.std.specs.List.{insert, remove}
use borrow.Rule.Slice.PartMut.{put_mid, mid_of, mid_len}

-- the number at n goes down to p
pub moved_down : (xs ys : List ℕ) (p n : ℕ) → p ≤ n → n < length xs → ys ≡ drop (length (mid_of p (n + 1 - p) xs) - 1) (mid_of p (n + 1 - p) xs) ++ take (length (mid_of p (n + 1 - p) xs) - 1) (mid_of p (n + 1 - p) xs)
    → take (n + 1) (put_mid p (n + 1 - p) xs ys) ≡ insert (take n xs) p (get_or xs n 0)
moved_down xs ys p n h g e =
    let m = mid_len p (n + 1) xs (omega arith) in
    let l : length ys ≡ n + 1 - p = rw e (search (rules, places)) in
    take-put_mid p (n + 1 - p) xs ys (n + 1) (omega arith) (omega arith)
    ∙ same_lists (take p xs ++ ys) (insert (take n xs) p (get_or xs n 0)) (search (rules, places)) (λ k d i. rw e (grind (arith, places)))

-- the number at p goes up; the turn is a variable here, so that it does not compute
turned : (xs ys : List ℕ) (p n m : ℕ) → p < n → n ≤ length xs → m ≡ 1 → ys ≡ drop m (mid_of p (n - p) xs) ++ take m (mid_of p (n - p) xs)
    → take (n - 1) (put_mid p (n - p) xs ys) ≡ remove (take n xs) p
turned xs ys p n m h g one e =
    let w = mid_len p n xs (omega arith) in
    let l : length ys ≡ n - p = rw e (search (rules, places)) in
    sym (take-take (n - 1) n (put_mid p (n - p) xs ys) (omega arith))
    ∙ (ap (take (n - 1)) (take-put_mid p (n - p) xs ys n (omega arith) (omega arith))
    ∙ same_lists (take (n - 1) (take p xs ++ ys)) (remove (take n xs) p) (search (rules, places)) (λ k d i. rw e (grind (arith, places))))

-- the number at p goes behind the others below n
pub moved_up : (xs ys : List ℕ) (p n : ℕ) → p < n → n ≤ length xs → ys ≡ drop 1 (mid_of p (n - p) xs) ++ take 1 (mid_of p (n - p) xs)
    → take (n - 1) (put_mid p (n - p) xs ys) ≡ remove (take n xs) p
moved_up xs ys p n h g e = turned xs ys p n 1 h g refl e
