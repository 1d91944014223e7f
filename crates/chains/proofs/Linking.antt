-- Chains stay linked when a node is put in or taken out: plain arithmetic on the columns.
use Rattle.std.proofs.Common.{◌≡◌, ℕ, suc, ◌<◌, ◌≤◌, ◌⊎◌, inl, inr, Some, None, Option, sym, refl, ap, ◌∙◌, subst, ⊎_elim, arith}
use Rattle.std.proofs.lemmas.Bool.{cases_eq, cases_order}
use Rattle.chains.specs.Links.{Linked, On, Over, left_from, NextIn, NextTop, Apart}

pub same_or_not : (p q : Option ℕ) → (p ≡ q) ⊎ (p ≡ q → ⊥)
same_or_not None None = inl refl
same_or_not None (Some j) = inr (λ e. cc)
same_or_not (Some i) None = inr (λ e. cc)
same_or_not (Some i) (Some j) = ⊎_elim (λ (e : i ≡ j). inl (ap Some e)) (λ (n : i ≡ j → ⊥). inr (λ e. n (cc))) (cases_eq i j)

both_or_not : (a c : ℕ) (s p : Option ℕ) → ((a ≡ c) × (s ≡ p)) ⊎ ((a ≡ c) × (s ≡ p) → ⊥)
both_or_not a c s p = ⊎_elim
    (λ (e : a ≡ c). ⊎_elim (λ (z : s ≡ p). inl (e, z)) (λ (z : s ≡ p → ⊥). inr (λ w. z w.1)) (same_or_not s p))
    (λ (e : a ≡ c → ⊥). inr (λ w. e w.0))
    (cases_eq a c)

-- a greater bound holds of a smaller tag
pub over_less : (T : ℕ → ℕ) (p : Option ℕ) (t u : ℕ) → Over T p t → u ≤ t → Over T p u
over_less T p t u o l i e = let b = o i e in omega arith

pub over_some : (T : ℕ → ℕ) (i t : ℕ) → t < T i → Over T (Some i) t
over_some T i t h j e = let n : i ≡ j = cc in let m = ap T n in omega arith

pub on_some : (N : ℕ) (C : ℕ → ℕ) (c i : ℕ) → i < N → C i ≡ c → On N C c (Some i)
on_some N C c i l h j e = let n : i ≡ j = cc in let m = ap C n in (omega arith, omega arith)

-- tags that agree from q on leave as much
left_same : (T U : ℕ → ℕ) (q : Option ℕ) → ((i : ℕ) → q ≡ Some i → U i ≡ T i) → left_from U q ≡ left_from T q
left_same T U None h = refl
left_same T U (Some i) h = ap suc (h i refl)

-- the tags of nodes on no chain may change
module _ {N : ℕ} {C T U : ℕ → ℕ} {Y : ℕ → Option ℕ → Option ℕ} (L : Linked N C T Y) (same : (j : ℕ) → C j < 64 → U j ≡ T j) where
  retag_next : NextIn N C U Y
  retag_next c p j h =
      let w = L.next_in c p j h in
      let b = h.0 in
      let l = w.1 in
      (w.0, w.1, λ i e. let o = (h.1 i e).1 in let t = w.2 i e in let s = same i (omega arith) in let u = same j (omega arith) in omega arith)

  retag_top : NextTop N C U Y
  retag_top c p k h =
      let b = h.0 in
      let l = h.3 in
      let s = same k (omega arith) in
      let t = L.next_top c p k (h.0, h.1, h.2, h.3, λ i e. let o = (h.1 i e).1 in let u = h.4 i e in let z = same i (omega arith) in omega arith) in
      let m = left_same T U (Y c p) (λ i e. same i (let w = (L.next_in c p i (h.0, h.1, e)).1 in omega arith)) in
      omega arith

  pub retagged : Linked N C U Y
  retagged = record {
    next_in = retag_next;
    next_top = retag_top;
    apart = λ i k h. let a = h.3 in let b = h.2 in let e = h.4 in let s = same i h.2 in let u = same k (omega arith) in L.apart i k (h.0, h.1, h.2, h.3, omega arith);
  }

module _ (N : ℕ) (C T : ℕ → ℕ) (Y : ℕ → Option ℕ → Option ℕ) (L : Linked N C T Y) (c : ℕ) (in_c : c < 64) where
  -- of two places on a chain one stands over the other
  over_other : (p s : Option ℕ) → On N C c p → On N C c s → (p ≡ s → ⊥) → ((i : ℕ) × (p ≡ Some i) × Over T s (T i)) ⊎ ((j : ℕ) × (s ≡ Some j) × Over T p (T j))
  over_other None None op os n = absurd (n refl)
  over_other None (Some j) op os n = inr (j, refl, λ i e. absurd (cc))
  over_other (Some i) None op os n = inl (i, refl, λ j e. absurd (cc))
  over_other (Some i) (Some j) op os n =
      let a = op i refl in
      let b = os j refl in
      ⊎_elim
      (λ (e : T i ≡ T j). absurd (n (ap Some (L.apart i j (a.0, b.0, omega arith, a.1 ∙ sym b.1, e)))))
      (⊎_elim
      (λ (l : T i < T j). inl (i, refl, over_some T j (T i) l))
      (λ (l : T j < T i). inr (j, refl, over_some T i (T j) l)))
      (cases_order (T i) (T j))

  -- a node is after one place alone
  one_before : (p s : Option ℕ) (r : ℕ) → On N C c p → On N C c s → Y c p ≡ Some r → Y c s ≡ Some r → (s ≡ p → ⊥) → ⊥
  one_before p s r op os yp ys n = ⊎_elim
      (λ (w : (i : ℕ) × (s ≡ Some i) × Over T p (T i)).
      let on = os w.0 w.1 in
      let u = L.next_top c p w.0 (in_c, op, on.0, on.1, w.2) in
      let v = (L.next_in c s r (in_c, os, ys)).2 w.0 w.1 in
      let m = ap (left_from T) yp in
      omega arith)
      (λ (w : (j : ℕ) × (p ≡ Some j) × Over T s (T j)).
      let on = op w.0 w.1 in
      let u = L.next_top c s w.0 (in_c, os, on.0, on.1, w.2) in
      let v = (L.next_in c p r (in_c, op, yp)).2 w.0 w.1 in
      let m = ap (left_from T) ys in
      omega arith)
      (over_other s p os op n)

-- a free node f goes into the chain c with the tag t, between p and q
module _ (N : ℕ) (C T C' T' : ℕ → ℕ) (Y Y' : ℕ → Option ℕ → Option ℕ) (L : Linked N C T Y) (f c t : ℕ) (p q : Option ℕ)
    (in_N : f < N) (was_free : C f ≡ 64) (in_c : c < 64) (p_on : On N C c p) (p_over : Over T p t) (p_next : Y c p ≡ q) (low : left_from T q ≤ t)
    (Cf : C' f ≡ c) (Co : (j : ℕ) → (j ≡ f → ⊥) → C' j ≡ C j)
    (Tf : T' f ≡ t) (To : (j : ℕ) → (j ≡ f → ⊥) → T' j ≡ T j)
    (Yf : Y' c (Some f) ≡ q) (Yp : Y' c p ≡ Some f)
    (Yo : (a : ℕ) (s : Option ℕ) → On N C a s → (s ≡ Some f → ⊥) → ((a ≡ c) × (s ≡ p) → ⊥) → Y' a s ≡ Y a s) where
  -- a node that was on a chain is another than f
  other : (j : ℕ) → C j < 64 → j ≡ f → ⊥
  other j h e = let u = ap C e in omega arith

  -- a place other than f: what it is on, and over
  was_on : (a : ℕ) (s : Option ℕ) → (s ≡ Some f → ⊥) → On N C' a s → On N C a s
  was_on a s n o i e = let w = o i e in (w.0, sym (Co i (λ z. n (e ∙ ap Some z))) ∙ w.1)

  is_over : (s : Option ℕ) (u v : ℕ) → (s ≡ Some f → ⊥) → u ≡ v → Over T s v → Over T' s u
  is_over s u v n z o i e = let w = o i e in let m = To i (λ y. n (e ∙ ap Some y)) in omega arith

  was_over : (s : Option ℕ) (u v : ℕ) → (s ≡ Some f → ⊥) → u ≡ v → Over T' s u → Over T s v
  was_over s u v n z o i e = let w = o i e in let m = To i (λ y. n (e ∙ ap Some y)) in omega arith

  -- what was after a place of a chain leaves as much as before
  same_left : (a : ℕ) (s : Option ℕ) → a < 64 → On N C a s → left_from T' (Y a s) ≡ left_from T (Y a s)
  same_left a s h o = left_same T T' (Y a s) (λ i e. To i (other i (let w = L.next_in a s i (h, o, e) in let on = w.1 in omega arith)))

  at_f : (a : ℕ) (s : Option ℕ) → On N C' a s → s ≡ Some f → a ≡ c
  at_f a s o e = sym (o f e).1 ∙ Cf

  in_next : NextIn N C' T' Y'
  in_next a s j h = ⊎_elim
      (λ (e : s ≡ Some f).
      let ac = at_f a s h.1 e in
      let y : q ≡ Some j = sym Yf ∙ ap (λ z. Y' z (Some f)) (sym ac) ∙ ap (Y' a) (sym e) ∙ h.2 in
      let w = L.next_in c p j (in_c, p_on, p_next ∙ y) in
      let on = w.1 in
      let o = other j (omega arith) in
      let l = ap (left_from T) y in
      let tj = To j o in
      (w.0, Co j o ∙ on ∙ sym ac, λ i z. let k : i ≡ f = cc (sym z ∙ e) in let m = ap T' k in omega arith))
      (λ (n : s ≡ Some f → ⊥).
      ⊎_elim
      (λ (e : (a ≡ c) × (s ≡ p)).
      let y : f ≡ j = cc (sym Yp ∙ ap (Y' c) (sym e.1) ∙ ap (λ z. Y' z s) (sym e.0) ∙ h.2) in
      let at_c = ap C' y in
      let at_t = ap T' y in
      let on = e.0 in
      (omega arith, omega arith, is_over s (T' j) t n (sym at_t ∙ Tf) (subst (λ z. Over T z t) (sym e.1) p_over)))
      (λ (m : (a ≡ c) × (s ≡ p) → ⊥).
      let was = was_on a s n h.1 in
      let w = L.next_in a s j (h.0, was, sym (Yo a s was n m) ∙ h.2) in
      let on = w.1 in
      let o = other j (let b = h.0 in omega arith) in
      (w.0, Co j o ∙ on, is_over s (T' j) (T j) n (To j o) w.2))
      (both_or_not a c s p))
      (same_or_not s (Some f))

  in_top : NextTop N C' T' Y'
  in_top a s k h = ⊎_elim
      (λ (e : s ≡ Some f).
      let ac = at_f a s h.1 e in
      let less = h.4 f e in
      let o : k ≡ f → ⊥ = λ z. let m = ap T' z in omega arith in
      let kc = Co k o in let kt = To k o in
      let on = h.3 in
      let under = L.next_top c p k (in_c, p_on, h.2, omega arith, over_less T p t (T k) p_over (omega arith)) in
      let y : Y' a s ≡ Y c p = ap (Y' a) e ∙ ap (λ z. Y' z (Some f)) ac ∙ Yf ∙ sym p_next in
      let m = ap (left_from T') y in
      let same = same_left c p in_c p_on in
      omega arith)
      (λ (n : s ≡ Some f → ⊥).
      ⊎_elim
      (λ (e : (a ≡ c) × (s ≡ p)).
      let y : Y' a s ≡ Some f = ap (λ z. Y' z s) e.0 ∙ ap (Y' c) e.1 ∙ Yp in
      let m = ap (left_from T') y in
      ⊎_elim
      (λ (z : k ≡ f). let kt = ap T' z in omega arith)
      (λ (o : k ≡ f → ⊥).
      let kc = Co k o in let kt = To k o in
      let on = h.3 in let ac = e.0 in
      let under = L.next_top c p k (in_c, p_on, h.2, omega arith, subst (λ z. Over T z (T k)) e.1 (was_over s (T' k) (T k) n kt h.4)) in
      let to_q = ap (left_from T) p_next in
      omega arith)
      (cases_eq k f))
      (λ (m : (a ≡ c) × (s ≡ p) → ⊥).
      let was = was_on a s n h.1 in
      let y = ap (left_from T') (Yo a s was n m) in
      let same = same_left a s h.0 was in
      let on = h.3 in
      ⊎_elim
      (λ (z : k ≡ f).
      let kc = ap C' z in let kt = ap T' z in
      let ac : a ≡ c = omega arith in
      ⊎_elim
      (λ (w : (i : ℕ) × (p ≡ Some i) × Over T s (T i)).
      let i_on = p_on w.0 w.1 in
      let under = L.next_top a s w.0 (h.0, was, i_on.0, i_on.1 ∙ sym ac, w.2) in
      let above = p_over w.0 w.1 in
      omega arith)
      (λ (w : (j : ℕ) × (s ≡ Some j) × Over T p (T j)).
      let j_on = was w.0 w.1 in
      let under = L.next_top c p w.0 (in_c, p_on, j_on.0, j_on.1 ∙ ac, w.2) in
      let to_q = ap (left_from T) p_next in
      let less = h.4 w.0 w.1 in
      let jt = To w.0 (λ q. n (w.1 ∙ ap Some q)) in
      absurd (omega arith))
      (over_other N C T Y L c in_c p s p_on (λ i e. let o = was i e in (o.0, o.1 ∙ ac)) (λ e. m (ac, sym e))))
      (λ (o : k ≡ f → ⊥).
      let kc = Co k o in let kt = To k o in
      let under = L.next_top a s k (h.0, was, h.2, omega arith, was_over s (T' k) (T k) n kt h.4) in
      omega arith)
      (cases_eq k f))
      (both_or_not a c s p))
      (same_or_not s (Some f))

  -- no node of the chain had the tag t
  in_new : (k : ℕ) → k < N → C k ≡ c → T k ≡ t → ⊥
  in_new k kN kc kt =
      let under = L.next_top c p k (in_c, p_on, kN, kc, over_less T p t (T k) p_over (omega arith)) in
      let to_q = ap (left_from T) p_next in
      omega arith

  in_apart : Apart N C' T'
  in_apart i k h = ⊎_elim
      (λ (e : i ≡ f).
      let ic = ap C' e in let it = ap T' e in
      ⊎_elim (λ (w : k ≡ f). omega arith) (λ (o : k ≡ f → ⊥). let kc = Co k o in let kt = To k o in absurd (in_new k h.1 (omega arith) (omega arith))) (cases_eq k f))
      (λ (n : i ≡ f → ⊥).
      let ic = Co i n in let it = To i n in
      ⊎_elim
      (λ (w : k ≡ f). let kc = ap C' w in let kt = ap T' w in absurd (in_new i h.0 (omega arith) (omega arith)))
      (λ (o : k ≡ f → ⊥). let kc = Co k o in let kt = To k o in L.apart i k (h.0, h.1, omega arith, omega arith, omega arith))
      (cases_eq k f))
      (cases_eq i f)

  pub linked_in : Linked N C' T' Y'
  linked_in = record { next_in = in_next; next_top = in_top; apart = in_apart }

-- the node r, which is after p on the chain c, leaves it
module _ (N : ℕ) (C T C' : ℕ → ℕ) (Y Y' : ℕ → Option ℕ → Option ℕ) (L : Linked N C T Y) (r c : ℕ) (p : Option ℕ)
    (in_N : r < N) (was : C r ≡ c) (in_c : c < 64) (p_on : On N C c p) (p_next : Y c p ≡ Some r)
    (Cr : C' r ≡ 64) (Co : (j : ℕ) → (j ≡ r → ⊥) → C' j ≡ C j)
    (Yp : Y' c p ≡ Y c (Some r))
    (Yo : (a : ℕ) (s : Option ℕ) → On N C a s → (s ≡ Some r → ⊥) → ((a ≡ c) × (s ≡ p) → ⊥) → Y' a s ≡ Y a s) where
  -- a node that is still on a chain is another than r
  still : (j : ℕ) → C' j < 64 → j ≡ r → ⊥
  still j h e = let u = ap C' e in omega arith

  still_on : (a : ℕ) (s : Option ℕ) → a < 64 → On N C' a s → On N C a s
  still_on a s h o i e = let w = o i e in let on = w.1 in (w.0, sym (Co i (still i (omega arith))) ∙ w.1)

  place_other : (a : ℕ) (s : Option ℕ) → a < 64 → On N C' a s → s ≡ Some r → ⊥
  place_other a s h o e = let w = (o r e).1 in omega arith

  out_next : NextIn N C' T Y'
  out_next a s j h =
      let on = still_on a s h.0 h.1 in
      ⊎_elim
      (λ (e : (a ≡ c) × (s ≡ p)).
      let y : Y c (Some r) ≡ Some j = sym Yp ∙ ap (Y' c) (sym e.1) ∙ ap (λ z. Y' z s) (sym e.0) ∙ h.2 in
      let w = L.next_in c (Some r) j (in_c, on_some N C c r in_N was, y) in
      let less = w.2 r refl in
      let u = L.next_in c p r (in_c, p_on, p_next) in
      let o : j ≡ r → ⊥ = λ z. let m = ap T z in omega arith in
      (w.0, Co j o ∙ w.1 ∙ sym e.0, subst (λ z. Over T z (T j)) (sym e.1) (over_less T p (T r) (T j) u.2 (omega arith))))
      (λ (n : (a ≡ c) × (s ≡ p) → ⊥).
      let y = sym (Yo a s on (place_other a s h.0 h.1) n) ∙ h.2 in
      let w = L.next_in a s j (h.0, on, y) in
      let o : j ≡ r → ⊥ = λ z.
      let ac : a ≡ c = sym w.1 ∙ ap C z ∙ was in
      one_before N C T Y L c in_c p s r p_on (λ i e. let v = on i e in (v.0, v.1 ∙ ac)) p_next (ap (λ q. Y q s) (sym ac) ∙ y ∙ ap Some z) (λ e. n (ac, e)) in
      (w.0, Co j o ∙ w.1, w.2))
      (both_or_not a c s p)

  out_top : NextTop N C' T Y'
  out_top a s k h =
      let on = still_on a s h.0 h.1 in
      let here = h.3 in let b = h.0 in
      let o = still k (omega arith) in
      let kc = Co k o in
      ⊎_elim
      (λ (e : (a ≡ c) × (s ≡ p)).
      let ac = e.0 in
      let y : Y' a s ≡ Y c (Some r) = ap (λ z. Y' z s) e.0 ∙ ap (Y' c) e.1 ∙ Yp in
      let m = ap (left_from T) y in
      let under = L.next_top c p k (in_c, p_on, h.2, omega arith, subst (λ z. Over T z (T k)) e.1 h.4) in
      let to_r = ap (left_from T) p_next in
      ⊎_elim
      (λ (z : T k ≡ T r). absurd (o (L.apart k r (h.2, in_N, omega arith, omega arith, z))))
      (⊎_elim
      (λ (z : T k < T r). let w = L.next_top c (Some r) k (in_c, on_some N C c r in_N was, h.2, omega arith, over_some T r (T k) z) in omega arith)
      (λ (z : T r < T k). absurd (omega arith)))
      (cases_order (T k) (T r)))
      (λ (n : (a ≡ c) × (s ≡ p) → ⊥).
      let m = ap (left_from T) (Yo a s on (place_other a s h.0 h.1) n) in
      let under = L.next_top a s k (h.0, on, h.2, omega arith, h.4) in
      omega arith)
      (both_or_not a c s p)

  out_apart : Apart N C' T
  out_apart i k h =
      let ic = Co i (still i h.2) in
      let kc = Co k (still k (omega arith)) in
      L.apart i k (h.0, h.1, omega arith, omega arith, h.4)

  pub linked_out : Linked N C' T Y'
  linked_out = record { next_in = out_next; next_top = out_top; apart = out_apart }
