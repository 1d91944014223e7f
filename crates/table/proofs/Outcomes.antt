-- What each call answers and leaves, from what its search found.
use Rattle.std.proofs.Common.{◌≡◌, ℕ, ◌+◌, ◌-◌, ◌<◌, ◌≤◌, Equal, Less, Greater, true, List, [], ◌∷◌, ◌++◌, length, get_or, take, drop, set, Result, Ok, Err, Some, None, sym, refl, ap, ◌∙◌, subst, arith}
use Rattle.std.proofs.lemmas.List.{length-map, length-take-le, length-set, length-drop, length-append, drop-set-lt, take_at, drop_at, drop-drop, take-append-drop, drop-append-le, get_or-take, get_or_default}
use Rattle.std.proofs.lemmas.List.Edits.{length-insert, length-remove}
use Rattle.std.proofs.lemmas.Bool.{lt-ltb, le-ltb}
use Rattle.std.proofs.lemmas.Cmp.{ranked}
use Rattle.std.proofs.Math.Seq.{take-set-lt}
use Rattle.std.specs.List.{insert as inserted_at, remove as removed_at, copy_within, HoldsAt}
use Rattle.std.specs.List.Sorted.{IsSearchInRange, IsBinarySearchResult, IsNonDecreasingBy, IsPartitionPoint}
use Rattle.std.specs.Ordering.{nat_cmp, ordering_index}
use Rattle.std.specs.Result.{result_ok}
use Rattle.model.specs.Maps.{is_there, look_up, enter, remove}
use Rattle.table.specs.declared.table.Table.{Table}
use Rattle.table.specs.declared.tagged.Tagged.{Ghosts}
use Rattle.table.specs.Order.{Ascending}
use Rattle.table.specs.Meaning.{pair_of, pairs, held, entries, spare, capacity, last, insert_answer}
use Rattle.table.specs.Tables.{entries_rising}
use Rattle.table.proofs.Edits.{gap_made, gap_closed}
use Rattle.model.proofs.Maps.{enter_rises, remove_rises}
use Rattle.table.proofs.Places.{ascending_pairs, gap, look_gap, remove_gap, enter_gap, look_at, enter_at, remove_at}

first : {X : Type 0} (xs : List X) → 0 < length xs → X
first [] h = absurd (omega arith)
first (x ∷ xs) h = x

module _ {E V : Type 0} {g : Ghosts E V} (t : Table E V g) where
  long : length (held t) ≡ t.len
  long = length-take-le t.len t.cells.now t.within

  -- what a search for k says of the place p where it found k, and of the place p where k would go
  abbrev pub Found : ℕ → ℕ → Type 0
  Found k p = record { bound : p < length (held t); position : HoldsAt (λ e. nat_cmp (g.tag e) k ≡ Equal) (held t) p }

  abbrev pub Missed : ℕ → ℕ → Type 0
  Missed k p = record { bound : p ≤ length (held t); position : IsNonDecreasingBy (λ e. ordering_index (nat_cmp (g.tag e) k)) (held t) → IsPartitionPoint (λ e. nat_cmp (g.tag e) k ≡ Less) (λ e. nat_cmp (g.tag e) k ≡ Greater) (held t) p }

  pub look_found : (k p : ℕ) (x : E) → Found k p → x ≡ get_or (held t) p x → look_up (entries t) k ≡ Some (g.value x)
  look_found k p x f is = look_at g (held t) p k x t.sorted f.bound (ranked _ k _ (sym (f.position x))) ∙ ap (λ y. Some (g.value y)) (sym is)

  pub look_missed : (k p : ℕ) → Missed k p → look_up (entries t) k ≡ None
  look_missed k p m = look_gap g (held t) k p (gap g.tag (held t) k p t.sorted m.position)

  pub remove_missed : (k p : ℕ) → Missed k p → remove k (entries t) ≡ entries t
  remove_missed k p m = remove_gap g (held t) k p (gap g.tag (held t) k p t.sorted m.position)

  -- the same, with the search's whole answer
  pub look_ok : (k p : ℕ) (x : E) (r : Result ℕ ℕ) → IsSearchInRange r (length (held t)) → IsBinarySearchResult (λ e. nat_cmp (g.tag e) k) (held t) r → result_ok r ≡ Some p → x ≡ get_or (held t) p x → look_up (entries t) k ≡ Some (g.value x)
  look_ok k p x (Ok q) bound position was is =
      let e : q ≡ p = cc in
      look_found k p x (subst (Found k) e (record { bound = bound; position = position })) is
  look_ok k p x (Err q) bound position was is = let z : ◌≡◌ {A = ℕ} 0 1 = cc in absurd (omega arith)

  pub look_err : (k : ℕ) (r : Result ℕ ℕ) → IsSearchInRange r (length (held t)) → IsBinarySearchResult (λ e. nat_cmp (g.tag e) k) (held t) r → result_ok r ≡ None → look_up (entries t) k ≡ None
  look_err k (Ok q) bound position was = let z : ◌≡◌ {A = ℕ} 0 1 = cc in absurd (omega arith)
  look_err k (Err q) bound position was = look_missed k q (record { bound = bound; position = position })

  -- a new tag, and no room
  pub full : (e : E) (k p : ℕ) → t.len ≡ capacity t → k ≡ g.tag e → Missed k p → Err (record {}) ≡ insert_answer (capacity t) (g.tag e) (entries t)
  full e k p all same m =
      let n = length-map (held t) (pair_of g) in
      rw (look_missed (g.tag e) p (subst (λ n. Missed n p) same m), le-ltb (length (entries t)) (capacity t) (omega (arith, long))) refl

  -- the order after an entry came, or went
  entered_ascends : (es : List E) (e : E) → pairs g es ≡ enter (g.tag e) (g.value e) (entries t) → Ascending g.tag es
  entered_ascends es e is = ascending_pairs g es (rw is (enter_rises (g.tag e) (g.value e) (entries t) (entries_rising t)))

  removed_ascends : (es : List E) (k : ℕ) → pairs g es ≡ remove k (entries t) → Ascending g.tag es
  removed_ascends es k is = ascending_pairs g es (rw is (remove_rises k (entries t) (entries_rising t)))

  -- the cells ys after a write of e over the entry x
  pub record Wrote (ys : List E) (e x : E) : Type 0 where
    pub answer : Ok (Some (g.value x)) ≡ insert_answer (capacity t) (g.tag e) (entries t)
    pub after : pairs g (take t.len ys) ≡ enter (g.tag e) (g.value e) (entries t)
    pub within : t.len ≤ length ys
    pub sorted : Ascending g.tag (take t.len ys)
    pub rest : drop t.len ys ≡ spare t
    pub kept : length ys ≡ capacity t

  pub wrote : (e x : E) (k p : ℕ) → k ≡ g.tag e → Found k p → x ≡ get_or t.cells.now p x → Wrote (set t.cells.now p e) e x
  wrote e x k p same f is =
      let found = subst (λ n. Found n p) same f in
      let bound : p < length (held t) = found.bound in
      let inside : p < t.len = omega (arith, long) in
      let after = ap (pairs g) (take-set-lt t.len t.cells.now p e inside) ∙ enter_at g (held t) p e e t.sorted bound (ranked _ (g.tag e) _ (sym (found.position e))) in
      let kept = length-set t.cells.now p e in
      record {
        answer = rw (look_found (g.tag e) p x found (is ∙ sym (get_or-take t.len t.cells.now p x inside))) refl;
        after = after;
        within = omega (arith, t.within);
        sorted = entered_ascends _ e after;
        rest = drop-set-lt t.len t.cells.now p e inside;
        kept = kept;
      }

  -- the cells ys after e was put between the others
  pub record Grew (ys : List E) (e : E) : Type 0 where
    pub answer : Ok None ≡ insert_answer (capacity t) (g.tag e) (entries t)
    pub after : pairs g (take (t.len + 1) ys) ≡ enter (g.tag e) (g.value e) (entries t)
    pub within : t.len + 1 ≤ length ys
    pub sorted : Ascending g.tag (take (t.len + 1) ys)
    pub rest : drop (t.len + 1) ys ≡ drop 1 (spare t)
    pub kept : length ys ≡ capacity t

  pub grew : (xs : List E) (e : E) (k p : ℕ) → t.len < capacity t → k ≡ g.tag e → Missed k p → xs ≡ copy_within t.cells.now p t.len (p + 1) → Grew (set xs p e) e
  grew xs e k p lt same m is =
      let missed = subst (λ n. Missed n p) same m in
      let bound : p ≤ length (held t) = missed.bound in
      let opened = inserted_at (held t) p e in
      let above = drop (t.len + 1) t.cells.now in
      let pairs_long = length-map (held t) (pair_of g) in
      let in_long : length opened ≡ t.len + 1 = omega (arith, long, length-insert (held t) p e bound) in
      let now : set xs p e ≡ opened ++ above = ap (λ z. set z p e) is ∙ gap_made t.cells.now p t.len e (omega (arith, long)) lt in
      let after = ap (λ z. pairs g (take (t.len + 1) z)) now ∙ ap (pairs g) (take_at opened above (t.len + 1) in_long) ∙ enter_gap g (held t) p e bound (gap g.tag (held t) (g.tag e) p t.sorted missed.position) in
      let kept : length (set xs p e) ≡ capacity t = ap length now ∙ omega (arith, length-append opened above, length-drop (t.len + 1) t.cells.now) in
      record {
        answer = rw (look_missed (g.tag e) p missed, lt-ltb (length (entries t)) (capacity t) (omega (arith, long))) refl;
        after = after;
        within = omega arith;
        sorted = entered_ascends _ e after;
        rest = ap (drop (t.len + 1)) now ∙ drop_at opened above (t.len + 1) in_long ∙ sym (drop-drop 1 t.len t.cells.now);
        kept = kept;
      }

  -- the cells ys after the entry at k was taken out
  pub record Shrunk (ys : List E) (k : ℕ) : Type 0 where
    pub answer : true ≡ is_there (look_up (entries t) k)
    pub after : pairs g (take (t.len - 1) ys) ≡ remove k (entries t)
    pub within : t.len - 1 ≤ length ys
    pub sorted : Ascending g.tag (take (t.len - 1) ys)
    pub rest : drop (t.len - 1) ys ≡ last (held t) ++ spare t
    pub kept : length ys ≡ capacity t

  pub shrunk : (ys : List E) (k p : ℕ) → Found k p → ys ≡ copy_within t.cells.now (p + 1) t.len p → Shrunk ys k
  shrunk ys k p found is =
      let bound : p < length (held t) = found.bound in
      let d = first (held t) (omega arith) in
      let closed = removed_at (held t) p in
      let above = drop (t.len - 1) t.cells.now in
      let out_long : length closed ≡ t.len - 1 = omega (arith, long, length-remove (held t) p bound) in
      let now : ys ≡ closed ++ above = is ∙ gap_closed t.cells.now p t.len (omega (arith, long)) in
      let after = ap (λ z. pairs g (take (t.len - 1) z)) now ∙ ap (pairs g) (take_at closed above (t.len - 1) out_long) ∙ remove_at g (held t) p k d t.sorted bound (ranked _ k _ (sym (found.position d))) in
      let kept : length ys ≡ capacity t = ap length now ∙ omega (arith, length-append closed above, length-drop (t.len - 1) t.cells.now, t.within) in
      record {
        answer = sym (ap is_there (look_found k p (get_or (held t) p d) found (get_or_default (held t) p d _ bound)));
        after = after;
        within = omega (arith, t.within);
        sorted = removed_ascends _ k after;
        rest = ap (drop (t.len - 1)) now ∙ drop_at closed above (t.len - 1) out_long ∙ sym (ap (drop (t.len - 1)) (take-append-drop t.len t.cells.now)) ∙ drop-append-le (t.len - 1) (held t) (spare t) (omega (arith, long)) ∙ ap (λ m. drop (m - 1) (held t) ++ spare t) (sym long);
        kept = kept;
      }
