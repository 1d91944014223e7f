-- Records in order around a place: what is found there, and what each change leaves. Assumes nothing.
use Rattle.std.proofs.Common.{◌≡◌, ℕ, zero, suc, ◌+◌, ◌<◌, ◌≤◌, Bool, true, false, cond, ◌&&◌, eqb, leb, List, [], ◌∷◌, length, get_or, set, Some, None, Ok, sym, refl, ap, ◌∙◌, ⊎_elim, arith}
use Rattle.std.proofs.lemmas.Bool.{cases_lt}
use Rattle.std.proofs.lemmas.Bool.Decides.{nat_tests}
use Rattle.std.specs.Bool.{then_some}
use Rattle.std.specs.List.{insert, remove, AllWithin}
use Rattle.std.specs.List.Sorted.{IsNonDecreasingBy}
use Rattle.std.specs.Ordering.{ordering_index}
use Rattle.std.specs.declared.cmp.Ordering.TheVariants.{Less, Equal, Greater}
use Rattle.model.specs.declared.words.Record.{Record}
use Rattle.model.specs.Maps.{is_there}
use Rattle.model.specs.Records.{stands, before, After, Ascending, or_else, record_at, newest, put, mark, drop_record}
use Rattle.version_store.proofs.Lookups.{marked, look_past, mark_is_put, drop_none}
use Rattle.version_store.specs.Putting.{putting, put_in}
use Rattle.version_store.proofs.Puts.{put_over}
use Rattle.shelf.specs.Search.{standing, Hit, Miss}

module _ {V : Type 0} where
  -- what a comparison tells of the two tests
  less : (k v : ℕ) (r : Record V) → standing k v r ≡ Less → (before k v r ≡ false) × (stands k v r ≡ false)
  less k v r h = (grind (arith, nat_tests), grind (arith, nat_tests))

  pub equal : (k v : ℕ) (r : Record V) → standing k v r ≡ Equal → stands k v r ≡ true
  equal k v r h = grind (arith, nat_tests)

  greater : (k v : ℕ) (r : Record V) → standing k v r ≡ Greater → before k v r ≡ true
  greater k v r h = grind (arith, nat_tests)

  -- what stands after r is behind it
  after_at : (r : Record V) (l : List (Record V)) (i : ℕ) (d : Record V) → After r l → i < length l → before r.key r.version (get_or l i d) ≡ true
  after_at r [] i d a h = absurd (omega arith)
  after_at r (c ∷ l) zero d a h = a.0
  after_at r (c ∷ l) (suc i) d a h = after_at r l i d a.1 (omega arith)

  -- an earlier record stands before a later one
  in_place : (l : List (Record V)) (i j : ℕ) (d : Record V) → Ascending l → i < j → j < length l → before (get_or l i d).key (get_or l i d).version (get_or l j d) ≡ true
  in_place [] i j d a h g = absurd (omega arith)
  in_place (r ∷ l) i zero d a h g = absurd (omega arith)
  in_place (r ∷ l) zero (suc j) d a h g = after_at r l j d a.0 (omega arith)
  in_place (r ∷ l) (suc i) (suc j) d a h g = in_place l i j d a.1 (omega arith) (omega arith)

  -- the comparisons rise along records in order
  pub rises : (k v : ℕ) (l : List (Record V)) → Ascending l → IsNonDecreasingBy (λ r. ordering_index (standing k v r)) l
  rises k v l a = λ i j d h g.
      ⊎_elim
      (λ (s : i < j). let b = in_place l i j d a s g in grind (arith, nat_tests))
      (λ (s : j ≤ i). let e : i ≡ j = omega arith in rw e (omega arith))
      (cases_lt i j)

  -- a hit: what stands there, and what changes of it leave
  look_hit : (k v p : ℕ) (l : List (Record V)) (d : Record V) → Ascending l → p < length l → stands k v (get_or l p d) ≡ true → record_at l k v ≡ Some (get_or l p d)
  unfolding record_at
  look_hit k v p [] d a h s = absurd (omega arith)
  look_hit k v zero (r ∷ l) d a h s = rw s refl
  look_hit k v (suc p) (r ∷ l) d a h s =
      let c = after_at r l p d a.0 (omega arith) in
      let f : stands k v r ≡ false = grind (arith, nat_tests) in
      rw f (look_hit k v p l d a.1 (omega arith) s)

  pub put_at : (e : Record V) (p : ℕ) (l : List (Record V)) (d : Record V) → Ascending l → p < length l → stands e.key e.version (get_or l p d) ≡ true → put e l ≡ set l p e
  unfolding put
  put_at e p [] d a h s = absurd (omega arith)
  put_at e zero (c ∷ l) d a h s = rw s refl
  put_at e (suc p) (c ∷ l) d a h s =
      let b = after_at c l p d a.0 (omega arith) in
      let f : stands e.key e.version c ≡ false = grind (arith, nat_tests) in
      let g : before e.key e.version c ≡ false = grind (arith, nat_tests) in
      rw (f, g) (ap (λ m. c ∷ m) (put_at e p l d a.1 (omega arith) s))

  pub mark_at : (k v n p : ℕ) (l : List (Record V)) (d : Record V) → Ascending l → p < length l → stands k v (get_or l p d) ≡ true → mark k v n l ≡ set l p (marked n (get_or l p d))
  mark_at k v n p l d a h s = mark_is_put k v n (get_or l p d) l a (look_hit k v p l d a h s) ∙ put_at (marked n (get_or l p d)) p l d a h (grind (arith, nat_tests))

  drop_at : (k v p : ℕ) (l : List (Record V)) (d : Record V) → Ascending l → p < length l → stands k v (get_or l p d) ≡ true → drop_record k v l ≡ remove l p
  unfolding drop_record
  drop_at k v p [] d a h s = absurd (omega arith)
  drop_at k v zero (c ∷ l) d a h s = rw s (drop_none k v l (look_past k v c l s a.0))
  drop_at k v (suc p) (c ∷ l) d a h s =
      let b = after_at c l p d a.0 (omega arith) in
      let f : stands k v c ≡ false = grind (arith, nat_tests) in
      rw f (ap (λ m. c ∷ m) (drop_at k v p l d a.1 (omega arith) s))

  -- a miss: nothing stands there, and a new record goes there
  none_at : (k v p : ℕ) (l : List (Record V)) → AllWithin (λ r. standing k v r ≡ Less) l 0 p → AllWithin (λ r. standing k v r ≡ Greater) l p (length l) → record_at l k v ≡ None
  unfolding record_at
  none_at k v p [] low high = refl
  none_at k v zero (r ∷ l) low high =
      let b = greater k v r (high 0 r (omega arith) (omega arith)) in
      let f : stands k v r ≡ false = grind (arith, nat_tests) in
      rw f (none_at k v zero l (λ i d x y. absurd (omega arith)) (λ i d x y. high (suc i) d (omega arith) (omega arith)))
  none_at k v (suc p) (r ∷ l) low high =
      let b = less k v r (low 0 r (omega arith) (omega arith)) in
      rw b.1 (none_at k v p l (λ i d x y. low (suc i) d (omega arith) (omega arith)) (λ i d x y. high (suc i) d (omega arith) (omega arith)))

  pub put_new_at : (e : Record V) (p : ℕ) (l : List (Record V)) → p ≤ length l → AllWithin (λ r. standing e.key e.version r ≡ Less) l 0 p → AllWithin (λ r. standing e.key e.version r ≡ Greater) l p (length l) → put e l ≡ insert l p e
  unfolding put
  put_new_at e zero [] h low high = refl
  put_new_at e (suc p) [] h low high = absurd (omega arith)
  put_new_at e zero (c ∷ l) h low high =
      let b = greater e.key e.version c (high 0 c (omega arith) (omega arith)) in
      let f : stands e.key e.version c ≡ false = grind (arith, nat_tests) in
      rw (f, b) refl
  put_new_at e (suc p) (c ∷ l) h low high =
      let b = less e.key e.version c (low 0 c (omega arith) (omega arith)) in
      rw (b.1, b.0) (ap (λ m. c ∷ m) (put_new_at e p l (omega arith) (λ i d x y. low (suc i) d (omega arith) (omega arith)) (λ i d x y. high (suc i) d (omega arith) (omega arith))))

  -- the newest at or below b: none where all stand after it, or the last that does not, if it has the key
  newest_none : (k b : ℕ) (l : List (Record V)) → ((i : ℕ) (d : Record V) → i < length l → before k b (get_or l i d) ≡ true) → newest k b l ≡ None
  unfolding newest
  newest_none k b [] high = refl
  newest_none k b (r ∷ l) high =
      let h = high 0 r (omega arith) in
      let f : (eqb k r.key && leb r.version b) ≡ false = grind (arith, nat_tests) in
      rw (newest_none k b l (λ i d x. high (suc i) d (omega arith)), f) refl

  newest_at : (k b p : ℕ) (l : List (Record V)) (d : Record V) → Ascending l → p < length l → before k b (get_or l p d) ≡ false → ((i : ℕ) (d : Record V) → p < i → i < length l → before k b (get_or l i d) ≡ true)
      → newest k b l ≡ then_some (eqb (get_or l p d).key k) (get_or l p d)
  unfolding newest
  newest_at k b p [] d a h low high = absurd (omega arith)
  newest_at k b zero (r ∷ l) d a h low high =
      let f : (eqb k r.key && leb r.version b) ≡ eqb r.key k = grind (arith, nat_tests) in
      rw (newest_none k b l (λ i d x. high (suc i) d (omega arith) (omega arith)), f) (same (eqb r.key k))
    where
      same : (x : Bool) → cond x (Some r) None ≡ then_some x r
      same true = refl
      same false = refl
  newest_at k b (suc p) (r ∷ l) d a h low high =
      let on = newest_at k b p l d a.1 (omega arith) low (λ i d x y. high (suc i) d (omega arith) (omega arith)) in
      rw on (go (eqb (get_or l p d).key k) refl)
    where
      go : (x : Bool) → eqb (get_or l p d).key k ≡ x → ◌≡◌ {A = _} (or_else (then_some x (get_or l p d)) (cond (eqb k r.key && leb r.version b) (Some r) None)) (then_some x (get_or l p d))
      go true f = refl
      go false f =
          let c = after_at r l p d a.0 (omega arith) in
          let g : (eqb k r.key && leb r.version b) ≡ false = grind (arith, nat_tests) in
          rw g refl

  -- what is past a hit is behind it
  hit_high : (k v p : ℕ) (l : List (Record V)) → Ascending l → Hit l k v p → (i : ℕ) (d : Record V) → p < i → i < length l → before k v (get_or l i d) ≡ true
  hit_high k v p l a h i d g m = let s = equal k v (get_or l p d) (h.there d) in let b = in_place l p i d a g m in grind (arith, nat_tests)

  pub hit_there : (k v p : ℕ) (l : List (Record V)) → Ascending l → Hit l k v p → true ≡ is_there (record_at l k v)
  hit_there k v p [] a h = absurd (let i = h.inside in omega arith)
  hit_there k v p (r ∷ l) a h = sym (ap is_there (look_hit k v p (r ∷ l) r a h.inside (equal k v (get_or (r ∷ l) p r) (h.there r))))

  pub hit_over : (n : ℕ) (e : Record V) (p : ℕ) (l : List (Record V)) → Ascending l → Hit l e.key e.version p → put_in n e l ≡ putting (Ok tt) (put e l)
  hit_over n e p l a h = put_over n e (get_or l p e) l (look_hit e.key e.version p l e a h.inside (equal e.key e.version (get_or l p e) (h.there e)))

  pub hit_dropped : (k v p : ℕ) (l : List (Record V)) → Ascending l → Hit l k v p → drop_record k v l ≡ remove l p
  hit_dropped k v p [] a h = absurd (let i = h.inside in omega arith)
  hit_dropped k v p (r ∷ l) a h = drop_at k v p (r ∷ l) r a h.inside (equal k v (get_or (r ∷ l) p r) (h.there r))

  pub miss_none : (k v p : ℕ) (l : List (Record V)) → Miss l k v p → record_at l k v ≡ None
  miss_none k v p l m = none_at k v p l m.point.0 m.point.1

  -- x is read at the place of the last record that does not stand after
  pub newest_hit : (k b p : ℕ) (l : List (Record V)) (x : Record V) → Ascending l → Hit l k b p → x ≡ get_or l p x → newest k b l ≡ then_some (eqb x.key k) x
  newest_hit k b p l x a h is =
      let s = equal k b (get_or l p x) (h.there x) in
      newest_at k b p l x a h.inside (grind (arith, nat_tests)) (hit_high k b p l a h) ∙ ap (λ (r : Record V). then_some (eqb r.key k) r) (sym is)

  pub newest_miss : (k b p q : ℕ) (l : List (Record V)) (x : Record V) → Ascending l → Miss l k b q → p + 1 ≡ q → x ≡ get_or l p x → newest k b l ≡ then_some (eqb x.key k) x
  newest_miss k b p q l x a m next is =
      let i = m.inside in
      newest_at k b p l x a (omega arith) (less k b (get_or l p x) (m.point.0 p x (omega arith) (omega arith))).0 (λ j e g h. greater k b (get_or l j e) (m.point.1 j e (omega arith) h))
      ∙ ap (λ (r : Record V). then_some (eqb r.key k) r) (sym is)

  pub newest_first : (k b p : ℕ) (l : List (Record V)) → Miss l k b p → p ≡ 0 → newest k b l ≡ None
  newest_first k b p l m first = newest_none k b l (λ i d h. greater k b (get_or l i d) (m.point.1 i d (omega arith) h))
