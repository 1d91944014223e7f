-- Stores in order, the versions that a read goes down, greatest numbers and class numbers.
use Rattle.std.proofs.Common.{◌≡◌, ℕ, zero, suc, ◌%◌, ◌<◌, ◌≤◌, max, Bool, true, false, cond, ◌&&◌, ◌||◌, eqb, ltb, leb, ◌⊎◌, List, [], ◌∷◌, length, get_or, set, Some, None, Option, sym, refl, ap, ◌∙◌, inl, inr, ⊎_elim, arith, length-set}
use Rattle.std.proofs.lemmas.Bool.Decides.{nat_tests}
use Rattle.model.specs.declared.words.Record.{Record}
use Rattle.model.specs.Maps.{is_there}
use Rattle.model.specs.Records.{record_of, stands, before, After, Ascending, record_at, put, mark, drop_record}
use Rattle.model.specs.Versions.{is_pending, number_below, greater_of, greater_record, versions_down, versions, is_pending_record, pending_among, has_pending, greatest_among, greatest_stamped, greater_below, greatest_below_among, greatest_below, drop_pending, drop_pending_all}
use Rattle.model.specs.Classes.{class_number, raise_class}
use Rattle.model.specs.Transactions.{member}
use Rattle.model.proofs.Parts.{pending_value, record_number}

-- a descending list
abbrev pub Desc : List ℕ → Type 0
Desc [] = Unit {0}
Desc (v ∷ vs) = ((j : ℕ) → member j vs ≡ true → j < v) × Desc vs

module _ {V : Type 0} where
  over_put : (r c : Record V) (l : List (Record V)) → before c.key c.version r ≡ true → After c l → After c (put r l)
  unfolding put
  over_put r c [] b O = (b, tt)
  over_put r c (d ∷ l) b O = pick (over_put r c l b O.1) (stands r.key r.version d) (before r.key r.version d)
    where
      pick : After c (put r l) → (x y : Bool) → After c (cond x (r ∷ l) (cond y (r ∷ d ∷ l) (d ∷ put r l)))
      pick on true y = (b, O.1)
      pick on false true = (b, O)
      pick on false false = (O.0, on)

  over_trans : (c d : Record V) (l : List (Record V)) → before c.key c.version d ≡ true → After d l → After c l
  over_trans c d [] b O = tt
  over_trans c d (e ∷ l) b O = (grind (arith, nat_tests, O.0), over_trans c d l b O.1)

  over_same : (c d : Record V) (l : List (Record V)) → c.key ≡ d.key → c.version ≡ d.version → After d l → After c l
  over_same c d [] a b O = tt
  over_same c d (e ∷ l) a b O = (grind (arith, nat_tests, O.0), over_same c d l a b O.1)

  pub up_put : (r : Record V) (l : List (Record V)) → Ascending l → Ascending (put r l)
  unfolding put
  up_put r [] W = (tt, tt)
  up_put r (d ∷ l) W = pick (up_put r l W.1) (stands r.key r.version d) refl (before r.key r.version d) refl
    where
      pick : Ascending (put r l) → (x : Bool) → stands r.key r.version d ≡ x → (y : Bool) → before r.key r.version d ≡ y
          → Ascending (cond x (r ∷ l) (cond y (r ∷ d ∷ l) (d ∷ put r l)))
      pick on true p y q = (over_same r d l (grind (arith, nat_tests)) (grind (arith, nat_tests)) W.0, W.1)
      pick on false p true q = ((q, over_trans r d l q W.0), W)
      pick on false p false q = (over_put r d l (grind (arith, nat_tests)) W.0, on)

  over_mark : (k v n : ℕ) (c : Record V) (l : List (Record V)) → After c l → After c (mark k v n l)
  unfolding mark
  over_mark k v n c [] O = tt
  over_mark k v n c (d ∷ l) O = pick (over_mark k v n c l O.1) (stands k v d)
    where
      pick : After c (mark k v n l) → (b : Bool) → After c (cond b (record_of d.key d.version (Some n) d.value) d ∷ mark k v n l)
      pick on true = (O.0, on)
      pick on false = (O.0, on)

  pub up_mark : (k v n : ℕ) (l : List (Record V)) → Ascending l → Ascending (mark k v n l)
  unfolding mark
  up_mark k v n [] W = tt
  up_mark k v n (d ∷ l) W = pick (up_mark k v n l W.1) (stands k v d)
    where
      pick : Ascending (mark k v n l) → (b : Bool) → Ascending (cond b (record_of d.key d.version (Some n) d.value) d ∷ mark k v n l)
      pick on true = (over_same (record_of d.key d.version (Some n) d.value) d (mark k v n l) refl refl (over_mark k v n d l W.0), on)
      pick on false = (over_mark k v n d l W.0, on)

  -- where some records go
  over_less : (c d : Record V) (t : List (Record V)) (b : Bool) → before c.key c.version d ≡ true → After c t → After c (cond b t (d ∷ t))
  over_less c d t true h O = O
  over_less c d t false h O = (h, O)

  up_less : (d : Record V) (t : List (Record V)) (b : Bool) → After d t → Ascending t → Ascending (cond b t (d ∷ t))
  up_less d t true O W = W
  up_less d t false O W = (O, W)

  over_drop : (k v : ℕ) (c : Record V) (l : List (Record V)) → After c l → After c (drop_record k v l)
  unfolding drop_record
  over_drop k v c [] O = tt
  over_drop k v c (d ∷ l) O = over_less c d (drop_record k v l) (stands k v d) O.0 (over_drop k v c l O.1)

  pub up_drop : (k v : ℕ) (l : List (Record V)) → Ascending l → Ascending (drop_record k v l)
  unfolding drop_record
  up_drop k v [] W = tt
  up_drop k v (d ∷ l) W = up_less d (drop_record k v l) (stands k v d) (over_drop k v d l W.0) (up_drop k v l W.1)

  up_pending : (v k : ℕ) (l : List (Record V)) → Ascending l → Ascending (drop_pending v k l)
  up_pending v k l W = go (is_pending_record (record_at l k v))
    where
      go : (b : Bool) → Ascending (cond b (drop_record k v l) l)
      go true = up_drop k v l W
      go false = W

  pub up_own : (v : ℕ) (ks : List ℕ) (l : List (Record V)) → Ascending l → Ascending (drop_pending_all v ks l)
  unfolding drop_pending_all
  up_own v [] l W = W
  up_own v (k ∷ ks) l W = up_own v ks (drop_pending v k l) (up_pending v k l W)

  -- the versions above a record, at its key
  over_at : (c : Record V) (l : List (Record V)) (k i : ℕ) → After c l → k ≡ c.key → is_there (record_at l k i) ≡ true → c.version < i
  unfolding record_at
  over_at c [] k i O e h = grind arith
  over_at c (d ∷ l) k i O e h = grind (arith, nat_tests, O.0, over_at c l k i O.1)

  pub down_mem : (l : List (Record V)) (k b j : ℕ) (acc : List ℕ) → member j (versions_down l k b acc) ≡ (member j acc || (is_there (record_at l k j) && leb j b))
  unfolding record_at versions_down
  down_mem [] k b j acc = grind (arith, nat_tests)
  down_mem (c ∷ l) k b j acc = pick (down_mem l k b j) (eqb k c.key && leb c.version b) refl
    where
      pick : ((acc : List ℕ) → member j (versions_down l k b acc) ≡ (member j acc || (is_there (record_at l k j) && leb j b))) → (x : Bool) → (eqb k c.key && leb c.version b) ≡ x
          → member j (versions_down l k b (cond x (c.version ∷ acc) acc)) ≡ (member j acc || (is_there (cond (stands k j c) (Some c) (record_at l k j)) && leb j b))
      pick on true e = grind (arith, nat_tests, on (c.version ∷ acc))
      pick on false e = grind (arith, nat_tests, on acc)

  pub down_desc : (l : List (Record V)) (k b : ℕ) (acc : List ℕ) → Ascending l → Desc acc → ((j i : ℕ) → member j acc ≡ true → is_there (record_at l k i) ≡ true → j < i) → Desc (versions_down l k b acc)
  unfolding record_at versions_down
  down_desc [] k b acc W D h = D
  down_desc (c ∷ l) k b acc W D h = pick (λ acc D h. down_desc l k b acc W.1 D h) (eqb k c.key && leb c.version b) refl
    where
      pick : ((acc : List ℕ) → Desc acc → ((j i : ℕ) → member j acc ≡ true → is_there (record_at l k i) ≡ true → j < i) → Desc (versions_down l k b acc))
          → (x : Bool) → (eqb k c.key && leb c.version b) ≡ x → Desc (versions_down l k b (cond x (c.version ∷ acc) acc))
      pick on true e = on (c.version ∷ acc) ((λ j m. grind (arith, nat_tests, h j c.version)), D)
          (λ j i m n. grind (arith, nat_tests, h j i, over_at c l k i W.0))
      pick on false e = on acc D (λ j i m n. grind (arith, nat_tests, h j i))

  -- a record raises the greatest so far to at least its number
  over_rises : (o : Option (Record V)) (p : ℕ × Option V) → p.0 ≤ (greater_record o p).0
  over_rises None p = omega arith
  over_rises (Some r) p = go r.number
    where
      go : (n : Option ℕ) → p.0 ≤ (greater_of n r.value p).0
      go None = omega arith
      go (Some n) = grind (arith, nat_tests)

  over_takes : (o : Option (Record V)) (p : ℕ × Option V) (n : ℕ) → record_number o ≡ Some n → n ≤ (greater_record o p).0
  over_takes None p n e = grind arith
  over_takes (Some r) p n e = go r.number e
    where
      go : (m : Option ℕ) → m ≡ Some n → n ≤ (greater_of m r.value p).0
      go None e = grind arith
      go (Some m) e = grind (arith, nat_tests)

  top_rises : (l : List (Record V)) (k : ℕ) (vs : List ℕ) (p : ℕ × Option V) → p.0 ≤ (greatest_among l k vs p).0
  unfolding greatest_among
  top_rises l k [] p = omega arith
  top_rises l k (v ∷ vs) p = let a = over_rises (record_at l k v) p in let b = top_rises l k vs (greater_record (record_at l k v) p) in omega arith

  top_takes : (l : List (Record V)) (k : ℕ) (vs : List ℕ) (p : ℕ × Option V) (v n : ℕ) → member v vs ≡ true → record_number (record_at l k v) ≡ Some n → n ≤ (greatest_among l k vs p).0
  unfolding greatest_among
  top_takes l k [] p v n m e = grind arith
  top_takes l k (w ∷ vs) p v n m e = go (eqb v w) refl m (λ m. top_takes l k vs (greater_record (record_at l k w) p) v n m e)
    where
      go : (b : Bool) → eqb v w ≡ b → (b || member v vs) ≡ true → (member v vs ≡ true → n ≤ (greatest_among l k vs (greater_record (record_at l k w) p)).0) → n ≤ (greatest_among l k vs (greater_record (record_at l k w) p)).0
      go true f m on =
          let i : v ≡ w = grind (arith, nat_tests) in
          let a = over_takes (record_at l k w) p n (ap (λ j. record_number (record_at l k j)) (sym i) ∙ e) in
          let b = top_rises l k vs (greater_record (record_at l k w) p) in omega arith
      go false f m on = on m

  -- a version of a record is in the list of all versions
  in_versions : (l : List (Record V)) (k v : ℕ) → v ≤ 18446744073709551615 → is_there (record_at l k v) ≡ true → member v (versions k l) ≡ true
  in_versions l k v b e = down_mem l k 18446744073709551615 v [] ∙ grind (arith, nat_tests)

  -- no stamped number of k exceeds the greatest
  pub top_over : (l : List (Record V)) (k v n : ℕ) → v ≤ 18446744073709551615 → record_number (record_at l k v) ≡ Some n → n ≤ (greatest_stamped k l).0
  top_over l k v n b e = top_takes l k (versions k l) (0, None) v n (in_versions l k v b (there (record_at l k v) e)) e
    where
      there : (o : Option (Record V)) → record_number o ≡ Some n → is_there o ≡ true
      there None e = grind arith
      there (Some r) e = refl

  pending_out : (l : List (Record V)) (k : ℕ) (vs : List ℕ) (v : ℕ) → pending_among l k vs ≡ false → member v vs ≡ true → is_pending_record (record_at l k v) ≡ false
  unfolding pending_among
  pending_out l k [] v e m = grind arith
  pending_out l k (w ∷ vs) v e m = go (eqb v w) refl m (is_pending_record (record_at l k w)) refl e (pending_out l k vs v)
    where
      go : (b : Bool) → eqb v w ≡ b → (b || member v vs) ≡ true → (a : Bool) → is_pending_record (record_at l k w) ≡ a → (a || pending_among l k vs) ≡ false
          → (pending_among l k vs ≡ false → member v vs ≡ true → is_pending_record (record_at l k v) ≡ false) → is_pending_record (record_at l k v) ≡ false
      go b f m true g e on = absurd (grind arith)
      go true f m false g e on = let i : v ≡ w = grind (arith, nat_tests) in rw i g
      go false f m false g e on = on e m

  pub pending_none : (l : List (Record V)) (k v : ℕ) → v ≤ 18446744073709551615 → has_pending k l ≡ false → pending_value (record_at l k v) ≡ None
  pending_none l k v b e = go (record_at l k v) refl
    where
      num : (r : Record V) (n : Option ℕ) → is_pending n ≡ false → pending_value (Some (record_of k v n r.value)) ≡ None
      num r None f = grind arith
      num r (Some n) f = refl

      go : (o : Option (Record V)) → record_at l k v ≡ o → pending_value o ≡ None
      go None f = refl
      go (Some r) f = num r r.number (ap is_pending_record (sym f) ∙ pending_out l k (versions k l) v e (in_versions l k v b (ap is_there f)))

  -- a stamped record of k has the number m, which is below the floor
  pub record Holder (l : List (Record V)) (fl k m : ℕ) : Type 0 where
    pub at : ℕ
    pub is : record_number (record_at l k at) ≡ Some m
    pub low : m < fl

  low_next : (l : List (Record V)) (k fl v m : ℕ) → (0 < m → Holder l fl k m) → 0 < greater_below fl (record_at l k v) m → Holder l fl k (greater_below fl (record_at l k v) m)
  low_next l k fl v m H h = go (record_at l k v) refl h
    where
      most : (n : ℕ) → record_number (record_at l k v) ≡ Some n → (b : Bool) → ltb n fl ≡ b → (z : Bool) → ltb m (cond b n 0) ≡ z → 0 < max (cond b n 0) m → Holder l fl k (max (cond b n 0) m)
      most n e true f true g h = let q : max n m ≡ n = grind (arith, nat_tests) in rw q (record { at = v; is = e; low = grind (arith, nat_tests) })
      most n e true f false g h = let q : max n m ≡ m = grind (arith, nat_tests) in rw q (H (omega arith))
      most n e false f z g h = let q : max 0 m ≡ m = omega arith in rw q (H (omega arith))

      num : (n : Option ℕ) → record_number (record_at l k v) ≡ n → 0 < max (number_below fl n) m → Holder l fl k (max (number_below fl n) m)
      num None e h = let q : max 0 m ≡ m = omega arith in rw q (H (omega arith))
      num (Some n) e h = most n e (ltb n fl) refl (ltb m (cond (ltb n fl) n 0)) refl h

      go : (o : Option (Record V)) → record_at l k v ≡ o → 0 < greater_below fl o m → Holder l fl k (greater_below fl o m)
      go None e h = H h
      go (Some r) e h = num r.number (ap record_number e) h

  low_held : (l : List (Record V)) (k fl : ℕ) (vs : List ℕ) (m : ℕ) → (0 < m → Holder l fl k m) → 0 < greatest_below_among l k fl vs m → Holder l fl k (greatest_below_among l k fl vs m)
  unfolding greatest_below_among
  low_held l k fl [] m H h = H h
  low_held l k fl (v ∷ vs) m H h = low_held l k fl vs (greater_below fl (record_at l k v) m) (low_next l k fl v m H) h

  pub top_held : (l : List (Record V)) (k fl : ℕ) → 0 < greatest_below k fl l → Holder l fl k (greatest_below k fl l)
  top_held l k fl h = low_held l k fl (versions k l) 0 (λ z. absurd (omega arith)) h

-- class numbers rise at one class
class_set : (cs : List ℕ) (i j m : ℕ) → get_or cs i 0 ≤ m → i < length cs → (get_or cs j 0 ≤ get_or (set cs i m) j 0) × (get_or (set cs i m) i 0 ≡ m) × (get_or (set cs i m) j 0 ≤ max (get_or cs j 0) m)
class_set [] i j m a h = absurd (omega arith)
class_set (x ∷ cs) zero zero m a h = (a, refl, omega arith)
class_set (x ∷ cs) zero (suc j) m a h = (omega arith, refl, omega arith)
class_set (x ∷ cs) (suc i) zero m a h = let p = class_set cs i 0 m a (omega arith) in (omega arith, p.1, omega arith)
class_set (x ∷ cs) (suc i) (suc j) m a h = class_set cs i j m a (omega arith)

class_same : (cs : List ℕ) (i j m : ℕ) → (i ≡ j) ⊎ (get_or (set cs i m) j 0 ≡ get_or cs j 0)
class_same [] i j m = inr refl
class_same (x ∷ cs) zero zero m = inl refl
class_same (x ∷ cs) zero (suc j) m = inr refl
class_same (x ∷ cs) (suc i) zero m = inr refl
class_same (x ∷ cs) (suc i) (suc j) m = ⊎_elim (λ e. inl (ap suc e)) (λ e. inr e) (class_same cs i j m)

pub class_says : (k n : ℕ) (cs : List ℕ) (q : ℕ) → length cs ≡ 64
    → (class_number cs q ≤ class_number (raise_class k n cs) q) × (n ≤ class_number (raise_class k n cs) k) × (class_number (raise_class k n cs) q ≤ max (class_number cs q) n) × (length (raise_class k n cs) ≡ 64)
unfolding class_number raise_class
class_says k n cs q e =
    let p = class_set cs (k % 64) (q % 64) (max (get_or cs (k % 64) 0) n) (omega arith) (omega arith) in
    let r = class_same cs (k % 64) (q % 64) (max (get_or cs (k % 64) 0) n) in
    (p.0, omega arith, grind (arith, p.2, r), rw length-set e)

set_rises : (cs : List ℕ) (i j m : ℕ) → get_or cs i 0 ≤ m → get_or cs j 0 ≤ get_or (set cs i m) j 0
set_rises [] i j m a = omega arith
set_rises (x ∷ cs) zero zero m a = a
set_rises (x ∷ cs) zero (suc j) m a = omega arith
set_rises (x ∷ cs) (suc i) zero m a = omega arith
set_rises (x ∷ cs) (suc i) (suc j) m a = set_rises cs i j m a

pub class_rises : (k n : ℕ) (cs : List ℕ) (q : ℕ) → class_number cs q ≤ class_number (raise_class k n cs) q
unfolding class_number raise_class
class_rises k n cs q = set_rises cs (k % 64) (q % 64) (max (get_or cs (k % 64) 0) n) (omega arith)
