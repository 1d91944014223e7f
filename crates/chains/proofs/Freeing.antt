-- The free nodes, linked one after another.
use Rattle.std.proofs.Common.{◌≡◌, ℕ, zero, suc, ◌+◌, ◌-◌, ◌<◌, ◌≤◌, Some, None, Option, sym, refl, ap, ◌∙◌, subst, arith}
use Rattle.chains.specs.Links.{trail, Freed}

none_trail : (X : ℕ → Option ℕ) (n : ℕ) → trail X None n ≡ None
none_trail X zero = refl
none_trail X (suc n) = refl

-- a trail goes on from where it came to
trail_plus : (X : ℕ → Option ℕ) (o : Option ℕ) (a b n : ℕ) → n ≡ a + b → trail X o n ≡ trail X (trail X o a) b
trail_plus X o zero b n e = let h : n ≡ b = omega arith in ap (trail X o) h
trail_plus X o (suc a) b zero e = absurd (omega arith)
trail_plus X None (suc a) b (suc n) e = sym (none_trail X b)
trail_plus X (Some i) (suc a) b (suc n) e = trail_plus X (X i) a b n (omega arith)

-- where the nodes on a trail keep what comes after them, the trail stays
trail_keep : (X X' : ℕ → Option ℕ) (o : Option ℕ) (F : ℕ) → ((m i : ℕ) → m < F → trail X o m ≡ Some i → X' i ≡ X i) → (m : ℕ) → m ≤ F → trail X' o m ≡ trail X o m
trail_keep X X' o F h zero l = refl
trail_keep X X' None F h (suc m) l = refl
trail_keep X X' (Some i) F h (suc m) l = ap (λ z. trail X' z m) (h 0 i (omega arith) refl) ∙ trail_keep X X' (X i) (F - 1) (λ a j b e. h (suc a) j (omega arith) e) m (omega arith)

module _ {N F : ℕ} {C : ℕ → ℕ} {X : ℕ → Option ℕ} {o : Option ℕ} (S : Freed N F C X o) where
  -- a free node is linked once
  once : (a b i : ℕ) → a < b → b < F → trail X o a ≡ Some i → trail X o b ≡ Some i → ⊥
  once a b i ab bF ea eb =
      let from_a = trail_plus X o a (F - b) (a + (F - b)) refl ∙ ap (λ z. trail X z (F - b)) ea in
      let from_b = trail_plus X o b (F - b) F (omega arith) ∙ ap (λ z. trail X z (F - b)) eb in
      S.full (a + (F - b)) (omega arith, from_a ∙ sym from_b ∙ S.ends)

  pub some_free : (i : ℕ) → o ≡ Some i → 0 < F
  some_free i e = go F refl
    where
      go : (n : ℕ) → F ≡ n → 0 < F
      go zero h = absurd (cc (e, sym (ap (trail X o) h) ∙ S.ends))
      go (suc n) h = omega arith

  pub none_free : o ≡ None → F ≡ 0
  none_free e = go F refl
    where
      go : (n : ℕ) → F ≡ n → F ≡ 0
      go zero h = h
      go (suc n) h = absurd (S.full 0 (omega arith, e))

  -- free nodes that keep what comes after them
  module _ {M : ℕ} {C' : ℕ → ℕ} {X' : ℕ → Option ℕ} (within : N ≤ M) (same : (m i : ℕ) → m < F → trail X o m ≡ Some i → (X' i ≡ X i) × (C' i ≡ 64)) where
    kept : (m : ℕ) → m ≤ F → trail X' o m ≡ trail X o m
    kept = trail_keep X X' o F (λ m i l e. (same m i l e).0)

    pub freed_keep : Freed M F C' X' o
    freed_keep = record {
      inside = λ m i h. let e = sym (kept m (omega arith)) ∙ h.1 in let w = S.inside m i (h.0, e) in let b = w.0 in (omega arith, (same m i h.0 e).1);
      full = λ m h. S.full m (h.0, sym (kept m (omega arith)) ∙ h.1);
      ends = kept F (omega arith) ∙ S.ends;
    }

    -- and one more before them
    module _ (r : ℕ) (r_in : r < M) (r_free : C' r ≡ 64) (r_next : X' r ≡ o) where
      push_inside : (m i : ℕ) → (m < suc F) × (trail X' (Some r) m ≡ Some i) → (i < M) × (C' i ≡ 64)
      push_inside zero i h = let e : r ≡ i = cc (h.1) in let c = ap C' e in (omega arith, omega arith)
      push_inside (suc m) i h = freed_keep.inside m i (let l = h.0 in omega arith, sym (ap (λ z. trail X' z m) r_next) ∙ h.1)

      push_full : (m : ℕ) → (m < suc F) × (trail X' (Some r) m ≡ None) → ⊥
      push_full zero h = cc (h.1)
      push_full (suc m) h = freed_keep.full m (let l = h.0 in omega arith, sym (ap (λ z. trail X' z m) r_next) ∙ h.1)

      pub freed_push : Freed M (F + 1) C' X' (Some r)
      freed_push =
          let e : suc F ≡ F + 1 = omega arith in
          subst (λ n. Freed M n C' X' (Some r)) e (record { inside = push_inside; full = push_full; ends = ap (λ z. trail X' z F) r_next ∙ freed_keep.ends })

-- the first free node is taken
module _ {N F : ℕ} {C : ℕ → ℕ} {X : ℕ → Option ℕ} (i : ℕ) (S : Freed N F C X (Some i)) where
  pop_rest : Freed N (F - 1) C X (X i)
  pop_rest =
      let some = some_free S i refl in
      let e : suc (F - 1) ≡ F = omega arith in
      record {
        inside = λ m j h. S.inside (suc m) j (let l = h.0 in omega arith, h.1);
        full = λ m h. S.full (suc m) (let l = h.0 in omega arith, h.1);
        ends = ap (trail X (Some i)) e ∙ S.ends;
      }

  pub freed_pop : {M : ℕ} {C' : ℕ → ℕ} {X' : ℕ → Option ℕ} → N ≤ M → ((j : ℕ) → C j ≡ 64 → (j ≡ i → ⊥) → (X' j ≡ X j) × (C' j ≡ 64)) → Freed M (F - 1) C' X' (X i)
  freed_pop within same =
      let some = some_free S i refl in
      freed_keep pop_rest within (λ m j l e. same j (pop_rest.inside m j (l, e)).1 (λ z. once S 0 (suc m) i (omega arith) (omega arith) refl (e ∙ ap Some z)))
