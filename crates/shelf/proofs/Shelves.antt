-- A shelf: what a search finds, and what each change leaves. Assumes nothing.
use Rattle.std.proofs.Common.{◌≡◌, ℕ, ◌+◌, ◌-◌, ◌<◌, ◌≤◌, true, List, [], ◌∷◌, ◌++◌, length, get_or, take, drop, set, Ok, Err, Result, MatchResult, sym, ap, ◌∙◌, arith}
use Rattle.std.proofs.lemmas.List.{length-set, length-take, get_or-take, get_or_default, get_or-set_same}
use Rattle.std.proofs.lemmas.List.Elements.{All-take}
use Rattle.std.proofs.lemmas.List.Sorted.{IsPermutation-put_mid, All-permutation, length_permutation}
use Rattle.std.proofs.lemmas.Option.{slice_get-get_or}
use Rattle.std.specs.List.{All, slice_get, insert}
use Rattle.std.specs.List.Sorted.{IsPermutation, IsNonDecreasingBy, IsBinarySearchResult, IsSearchInRange}
use Rattle.std.specs.Ordering.{ordering_index}
use Rattle.model.specs.declared.words.Record.{Record}
use Rattle.model.specs.Records.{Ascending, put, mark, drop_record}
use Rattle.version_store.specs.Order.{in_order}
use Rattle.version_store.proofs.Ascents.{ascends, ordered, put_ascends, mark_ascends, drop_ascends}
use Rattle.version_store.proofs.Lookups.{marked}
use Rattle.shelf.specs.declared.shelf.Shelf.{Shelf}
use Rattle.shelf.specs.Index.{Apart, named}
use Rattle.shelf.specs.Meaning.{shelved}
use Rattle.shelf.specs.Search.{standing, standing_of, Hit, Miss}
use Rattle.shelf.proofs.Indexes.{take_apart, apart_any, apart_permutation, named_length, named_at, inside_set, named_other, named_set, named_insert, named_remove}
use Rattle.shelf.proofs.Moves.{moved_down, moved_up}
use Rattle.shelf.proofs.Searches.{rises, equal, put_at, mark_at, put_new_at, hit_dropped}
use borrow.Rule.Slice.PartMut.{put_mid, mid_of}

module _ {V : Type 0} where
  -- the comparisons over the index are those over the records that it names
  compared_at : (rs : List (Record V)) (xs : List ℕ) (k v i e : ℕ) (d : Record V) → All (λ i. i < length rs) xs → i < length xs → standing_of k v (slice_get rs (get_or xs i e)) ≡ standing k v (get_or (named rs xs) i d)
  compared_at rs xs k v i e d a h =
      ap (standing_of k v) (slice_get-get_or rs (get_or xs i e) d (a i e h)) ∙ (ap (λ j. standing k v (get_or rs j d)) (get_or_default xs i e 0 h) ∙ ap (standing k v) (sym (named_at rs xs i d a h)))

  compared_rise : (rs : List (Record V)) (xs : List ℕ) (k v : ℕ) → All (λ i. i < length rs) xs → Ascending (named rs xs) → IsNonDecreasingBy (λ i. ordering_index (standing_of k v (slice_get rs i))) xs
  compared_rise [] xs k v a up = λ i j e h g. absurd (let l = a j e g in omega arith)
  compared_rise (r ∷ rs) xs k v a up = λ i j e h g.
      let l = named_length (r ∷ rs) xs a in
      rw (compared_at (r ∷ rs) xs k v i e r a (omega arith), compared_at (r ∷ rs) xs k v j e r a g) (rises k v (named (r ∷ rs) xs) up i j r h (omega arith))

  pub searched : (rs : List (Record V)) (xs : List ℕ) (k v : ℕ) (o : Result ℕ ℕ) → All (λ i. i < length rs) xs → Ascending (named rs xs) → IsSearchInRange o (length xs) → IsBinarySearchResult (λ i. standing_of k v (slice_get rs i)) xs o
      → MatchResult o (Hit (named rs xs) k v) (Miss (named rs xs) k v)
  searched rs xs k v (Ok p) a up h there =
      let l = named_length rs xs a in
      record { inside = omega arith; there = λ d. sym (compared_at rs xs k v p 0 d a h) ∙ there 0 }
  searched rs xs k v (Err p) a up h point =
      let l = named_length rs xs a in
      let w = point (compared_rise rs xs k v a up) in
      record {
        inside = omega arith;
        point = (λ i d x y. sym (compared_at rs xs k v i 0 d a (omega arith)) ∙ w.0 i 0 x y, λ i d x y. sym (compared_at rs xs k v i 0 d a (omega arith)) ∙ w.1 i 0 x (omega arith));
      }

  -- what a shelf keeps of its records and its index, by the names of its ghost fields
  abbrev Kept : List (Record V) → List ℕ → ℕ → Type 0
  Kept rs xs n = record {
    as_long : length xs ≡ length rs;
    inside : All (λ i. i < length rs) xs;
    apart : Apart xs;
    sorted : in_order (named rs (take n xs)) ≡ true;
    counted : length (named rs (take n xs)) ≡ n;
    within : length (named rs (take n xs)) ≤ length rs;
  }

  kept : (rs : List (Record V)) (xs : List ℕ) (n : ℕ) (m : List (Record V)) → length xs ≡ length rs → All (λ i. i < length rs) xs → Apart xs → n ≤ length rs → named rs (take n xs) ≡ m → Ascending m → Kept rs xs n
  kept rs xs n m long in_all apart used is up =
      let c = named_length rs (take n xs) (All-take (λ i. i < length rs) n xs in_all) in
      let t = length-take n xs in
      record { as_long = long; inside = in_all; apart = apart; sorted = ap in_order is ∙ ordered m up; counted = omega arith; within = omega arith }

  module _ (s : Shelf V) where
    pub ascending : Ascending (shelved s)
    ascending = ascends (shelved s) s.sorted

    pub live : All (λ i. i < length s.records.now) (take s.len s.index.now)
    live = All-take (λ i. i < length s.records.now) s.len s.index.now s.inside

    used : s.len ≤ length s.index.now
    used = let a = named_length s.records.now (take s.len s.index.now) live in let b = length-take s.len s.index.now in omega arith

    -- a record is written over the one at p
    written : (p q : ℕ) (e : Record V) (m : List (Record V)) → p < s.len → q ≡ get_or s.index.now p 0 → set (shelved s) p e ≡ m → Ascending m
        → (named (set s.records.now q e) (take s.len s.index.now) ≡ m) × Kept (set s.records.now q e) s.index.now s.len
    written p q e m h place is up =
        let in_q = s.inside p 0 (omega arith) in
        let t = length-take s.len s.index.now in
        let w = length-set s.records.now q e in
        let means : named (set s.records.now q e) (take s.len s.index.now) ≡ m = named_set s.records.now (take s.len s.index.now) q e live (omega arith) p (omega arith) (place ∙ sym (get_or-take s.len s.index.now p 0 h)) (take_apart s.len s.index.now s.apart) ∙ is in
        (means, kept (set s.records.now q e) s.index.now s.len m (omega arith) (inside_set s.records.now s.index.now q e s.inside (omega arith)) s.apart (omega arith) means up)

    pub replaced : (e : Record V) (p q : ℕ) → Hit (shelved s) e.key e.version p → q ≡ get_or s.index.now p 0
        → (named (set s.records.now q e) (take s.len s.index.now) ≡ put e (shelved s)) × Kept (set s.records.now q e) s.index.now s.len
    replaced e p q h place =
        let i = h.inside in
        written p q e (put e (shelved s)) (omega arith) place (sym (put_at e p (shelved s) e ascending h.inside (equal e.key e.version (get_or (shelved s) p e) (h.there e)))) (put_ascends e (shelved s) ascending)

    -- the record at p is marked; x is read for it
    pub marked_there : (k v n p q : ℕ) (x : Record V) → Hit (shelved s) k v p → q ≡ get_or s.index.now p 0
        → (named (set s.records.now q (marked n (get_or s.records.now q x))) (take s.len s.index.now) ≡ mark k v n (shelved s)) × Kept (set s.records.now q (marked n (get_or s.records.now q x))) s.index.now s.len
    marked_there k v n p q x h place =
        let i = h.inside in
        let t = length-take s.len s.index.now in
        let at : get_or (shelved s) p x ≡ get_or s.records.now q x = named_at s.records.now (take s.len s.index.now) p x live (omega arith) ∙ ap (λ j. get_or s.records.now j x) (get_or-take s.len s.index.now p 0 (omega arith) ∙ sym place) in
        written p q (marked n (get_or s.records.now q x)) (mark k v n (shelved s)) (omega arith) place
        (ap (λ r. set (shelved s) p (marked n r)) (sym at) ∙ sym (mark_at k v n p (shelved s) x ascending h.inside (equal k v (get_or (shelved s) p x) (h.there x)))) (mark_ascends k v n (shelved s) ascending)

    -- a record is written to the first free place, which no number of a record names
    free : (e : Record V) (q : ℕ) → s.len < length s.records.now → q ≡ get_or s.index.now s.len 0 → named (set s.records.now q e) (take s.len s.index.now) ≡ shelved s
    free e q l place =
        let in_q = s.inside s.len 0 (omega arith) in
        let t = length-take s.len s.index.now in
        named_other s.records.now (take s.len s.index.now) q e live (omega arith)
        (λ k h z. apart_any s.index.now k s.len s.apart (λ e. omega arith) (omega arith) (omega arith) (sym (get_or-take s.len s.index.now k 0 (omega arith)) ∙ (z ∙ place)))

    pub spare : (e : Record V) (q : ℕ) → s.len < length s.records.now → q ≡ get_or s.index.now s.len 0 → Kept (set s.records.now q e) s.index.now s.len
    spare e q l place =
        let in_q = s.inside s.len 0 (omega arith) in
        let w = length-set s.records.now q e in
        kept (set s.records.now q e) s.index.now s.len (shelved s) (omega arith) (inside_set s.records.now s.index.now q e s.inside (omega arith)) s.apart (omega arith) (free e q l place) ascending

    -- and its number goes to p
    pub added : (e : Record V) (p q : ℕ) (ys : List ℕ) → Miss (shelved s) e.key e.version p → s.len < length s.records.now → q ≡ get_or s.index.now s.len 0 → IsPermutation (mid_of p (s.len + 1 - p) s.index.now) ys
        → ys ≡ drop (length (mid_of p (s.len + 1 - p) s.index.now) - 1) (mid_of p (s.len + 1 - p) s.index.now) ++ take (length (mid_of p (s.len + 1 - p) s.index.now) - 1) (mid_of p (s.len + 1 - p) s.index.now)
        → (named (set s.records.now q e) (take (s.len + 1) (put_mid p (s.len + 1 - p) s.index.now ys)) ≡ put e (shelved s)) × Kept (set s.records.now q e) (put_mid p (s.len + 1 - p) s.index.now ys) (s.len + 1)
    added e p q ys miss l place moves turned =
        let rs = set s.records.now q e in
        let xs = put_mid p (s.len + 1 - p) s.index.now ys in
        let same = IsPermutation-put_mid p (s.len + 1 - p) s.index.now ys moves in
        let long = length_permutation s.index.now xs same in
        let w = length-set s.records.now q e in
        let i = miss.inside in
        let in_q = s.inside s.len 0 (omega arith) in
        let means : named rs (take (s.len + 1) xs) ≡ put e (shelved s) =
        ap (named rs) (moved_down s.index.now ys p s.len (omega arith) (omega arith) turned ∙ ap (insert (take s.len s.index.now) p) (sym place))
        ∙ (named_insert rs (take s.len s.index.now) p q e (omega arith)
        ∙ (ap (insert (named rs (take s.len s.index.now)) p) (get_or-set_same s.records.now q e e (omega arith))
        ∙ (ap (λ m. insert m p e) (free e q l place) ∙ sym (put_new_at e p (shelved s) miss.inside miss.point.0 miss.point.1)))) in (
          means,
          kept rs xs (s.len + 1) (put e (shelved s)) (omega arith) (All-permutation (λ i. i < length rs) s.index.now xs same (inside_set s.records.now s.index.now q e s.inside (omega arith))) (apart_permutation s.index.now xs same s.apart) (omega arith) means (put_ascends e (shelved s) ascending),
        )

    -- the number at p goes behind those of the other records
    pub dropped : (k v p : ℕ) (ys : List ℕ) → Hit (shelved s) k v p → IsPermutation (mid_of p (s.len - p) s.index.now) ys → ys ≡ drop 1 (mid_of p (s.len - p) s.index.now) ++ take 1 (mid_of p (s.len - p) s.index.now)
        → (named s.records.now (take (s.len - 1) (put_mid p (s.len - p) s.index.now ys)) ≡ drop_record k v (shelved s)) × Kept s.records.now (put_mid p (s.len - p) s.index.now ys) (s.len - 1)
    dropped k v p ys h moves turned =
        let rs = s.records.now in
        let xs = put_mid p (s.len - p) s.index.now ys in
        let same = IsPermutation-put_mid p (s.len - p) s.index.now ys moves in
        let long = length_permutation s.index.now xs same in
        let i = h.inside in
        let n = used in
        let means : named rs (take (s.len - 1) xs) ≡ drop_record k v (shelved s) =
        ap (named rs) (moved_up s.index.now ys p s.len (omega arith) (omega arith) turned) ∙ (named_remove rs (take s.len s.index.now) p ∙ sym (hit_dropped k v p (shelved s) ascending h)) in
        (means, kept rs xs (s.len - 1) (drop_record k v (shelved s)) (omega arith) (All-permutation (λ i. i < length rs) s.index.now xs same s.inside) (apart_permutation s.index.now xs same s.apart) (omega arith) means (drop_ascends k v (shelved s) ascending))
