-- What a changed map, store or class list says at each place.
use Rattle.std.proofs.Common.{◌≡◌, ℕ, zero, suc, Bool, true, false, cond, ◌||◌, eqb, ◌⊎◌, List, [], ◌∷◌, drop, Some, None, Option, refl, ap, ◌∙◌, inl, inr, ⊎_elim, arith}
use Rattle.std.proofs.lemmas.Bool.Decides.{nat_tests}
use Rattle.model.specs.declared.words.Record.{Record}
use Rattle.model.specs.Maps.{is_there, look_up, enter, remove}
use Rattle.model.specs.Records.{record_of, record_at, put, mark, drop_record}
use Rattle.model.specs.Versions.{is_pending, is_pending_record, drop_pending, drop_pending_all}
use Rattle.model.specs.Transactions.{member, with_key}
use Rattle.model.proofs.Parts.{pending_value, record_number, record_value}

module _ {X : Type 0} where
  pub enter_says : (k : ℕ) (x : X) (l : List (ℕ × X)) (q : ℕ) → ((q ≡ k) × (look_up (enter k x l) q ≡ Some x)) ⊎ ((q ≡ k → ⊥) × (look_up (enter k x l) q ≡ look_up l q))
  unfolding look_up enter
  enter_says k x [] q = grind (arith, nat_tests)
  enter_says k x (e ∷ l) q = grind (arith, nat_tests, enter_says k x l q)

  pub remove_says : (k : ℕ) (l : List (ℕ × X)) (q : ℕ) → ((q ≡ k) × (look_up (remove k l) q ≡ None)) ⊎ ((q ≡ k → ⊥) × (look_up (remove k l) q ≡ look_up l q))
  unfolding look_up remove
  remove_says k [] q = grind (arith, nat_tests)
  remove_says k (e ∷ l) q = grind (arith, nat_tests, remove_says k l q)

pub with_key_says : (k : ℕ) (ks : List ℕ) (q : ℕ) → member q (with_key k ks) ≡ (eqb q k || member q ks)
with_key_says k [] q = grind (arith, nat_tests)
with_key_says k (x ∷ xs) q = grind (arith, nat_tests, with_key_says k xs q)

pub mem_drop : (n : ℕ) (ks : List ℕ) (k : ℕ) → member k (drop n ks) ≡ true → member k ks ≡ true
mem_drop zero ks k h = h
mem_drop (suc n) [] k h = h
mem_drop (suc n) (x ∷ ks) k h = grind (arith, nat_tests, mem_drop n ks k)

module _ {V : Type 0} where
  -- a record marked with n, if it is there
  abbrev pub marked : ℕ → Option (Record V) → Option (Record V)
  marked n None = None
  marked n (Some r) = Some (record_of r.key r.version (Some n) r.value)

  pub put_says : (r : Record V) (l : List (Record V)) (p q : ℕ)
      → ((p ≡ r.key) × (q ≡ r.version) × (record_at (put r l) p q ≡ Some r)) ⊎ (((p ≡ r.key) → (q ≡ r.version) → ⊥) × (record_at (put r l) p q ≡ record_at l p q))
  unfolding record_at put
  put_says r [] p q = grind (arith, nat_tests)
  put_says r (c ∷ l) p q = grind (arith, nat_tests, put_says r l p q)

  pub mark_says : (k v n : ℕ) (l : List (Record V)) (p q : ℕ)
      → ((p ≡ k) × (q ≡ v) × (record_at (mark k v n l) p q ≡ marked n (record_at l p q))) ⊎ (((p ≡ k) → (q ≡ v) → ⊥) × (record_at (mark k v n l) p q ≡ record_at l p q))
  unfolding record_at mark
  mark_says k v n [] p q = grind (arith, nat_tests)
  mark_says k v n (c ∷ l) p q = grind (arith, nat_tests, mark_says k v n l p q)

  pub drop_says : (k v : ℕ) (l : List (Record V)) (p q : ℕ)
      → ((p ≡ k) × (q ≡ v) × (record_at (drop_record k v l) p q ≡ None)) ⊎ (((p ≡ k) → (q ≡ v) → ⊥) × (record_at (drop_record k v l) p q ≡ record_at l p q))
  unfolding record_at drop_record
  drop_says k v [] p q = grind (arith, nat_tests)
  drop_says k v (c ∷ l) p q = grind (arith, nat_tests, drop_says k v l p q)

  -- the three kinds of what stands at a place: nothing, a pending record, a stamped one
  pub kinds : (o : Option (Record V))
      → ((o ≡ None) × (record_value o ≡ None) × (pending_value o ≡ None) × (record_number o ≡ None))
      ⊎ (((x : V) × (record_value o ≡ Some x) × (pending_value o ≡ Some x) × (record_number o ≡ None))
      ⊎ ((x : V) × (n : ℕ) × (record_value o ≡ Some x) × (pending_value o ≡ None) × (record_number o ≡ Some n)))
  kinds None = inl (refl, refl, refl, refl)
  kinds (Some r) = inr (pick r.number)
    where
      pick : (n : Option ℕ) → ((x : V) × (Some r.value ≡ Some x) × (pending_value (Some (record_of r.key r.version n r.value)) ≡ Some x) × (n ≡ None))
          ⊎ ((x : V) × (m : ℕ) × (Some r.value ≡ Some x) × (pending_value (Some (record_of r.key r.version n r.value)) ≡ None) × (n ≡ Some m))
      pick None = inl (r.value, refl, refl, refl)
      pick (Some m) = inr (r.value, m, refl, refl, refl)

  -- what a mark leaves: the value, no pending one, and the number where there is a record
  pub marked_says : (n : ℕ) (o : Option (Record V))
      → (record_value (marked n o) ≡ record_value o) × (pending_value (marked n o) ≡ None) × (((o ≡ None) × (record_number (marked n o) ≡ None)) ⊎ ((is_there o ≡ true) × (record_number (marked n o) ≡ Some n)))
  marked_says n None = (refl, refl, inl (refl, refl))
  marked_says n (Some r) = (refl, refl, inr (refl, refl))

  -- what a version without its pending record says
  pending_says : (v k : ℕ) (l : List (Record V)) (p q : ℕ)
      → ((record_at (drop_pending v k l) p q ≡ record_at l p q) × (q ≡ v → p ≡ k → pending_value (record_at l p q) ≡ None)) ⊎ ((record_at (drop_pending v k l) p q ≡ None) × (record_number (record_at l p q) ≡ None) × (q ≡ v))
  pending_says v k l p q = go (record_at l k v) refl
    where
      number : (o : Option ℕ) (x : V) → is_pending o ≡ true → record_number (Some (record_of k v o x)) ≡ None
      number None x e = refl
      number (Some n) x e = grind arith

      other : (o : Option ℕ) (x : V) → is_pending o ≡ false → pending_value (Some (record_of k v o x)) ≡ None
      other None x e = grind arith
      other (Some n) x e = refl

      test : (r : Record V) → record_at l k v ≡ Some r → (b : Bool) → is_pending r.number ≡ b
          → ((record_at (cond b (drop_record k v l) l) p q ≡ record_at l p q) × (q ≡ v → p ≡ k → pending_value (record_at l p q) ≡ None)) ⊎ ((record_at (cond b (drop_record k v l) l) p q ≡ None) × (record_number (record_at l p q) ≡ None) × (q ≡ v))
      test r e true f =
          let a : record_number (record_at l k v) ≡ None = ap record_number e ∙ number r.number r.value f in
          ⊎_elim (λ d. inr (d.2, rw (d.0, d.1) a, d.1)) (λ d. inl (d.1, λ i j. absurd (d.0 j i))) (drop_says k v l p q)
      test r e false f = let a : pending_value (record_at l k v) ≡ None = ap pending_value e ∙ other r.number r.value f in inl (refl, λ i j. rw (i, j) a)

      go : (o : Option (Record V)) → record_at l k v ≡ o
          → ((record_at (cond (is_pending_record o) (drop_record k v l) l) p q ≡ record_at l p q) × (q ≡ v → p ≡ k → pending_value (record_at l p q) ≡ None)) ⊎ ((record_at (cond (is_pending_record o) (drop_record k v l) l) p q ≡ None) × (record_number (record_at l p q) ≡ None) × (q ≡ v))
      go None e = inl (refl, λ i j. rw (i, j) (ap pending_value e))
      go (Some r) e = test r e (is_pending r.number) refl

  pub own_says : (v : ℕ) (ks : List ℕ) (l : List (Record V)) (p q : ℕ)
      → ((record_at (drop_pending_all v ks l) p q ≡ record_at l p q) × (q ≡ v → member p ks ≡ true → pending_value (record_at l p q) ≡ None)) ⊎ ((record_at (drop_pending_all v ks l) p q ≡ None) × (record_number (record_at l p q) ≡ None) × (q ≡ v))
  unfolding drop_pending_all
  own_says v [] l p q = inl (refl, λ i m. absurd (grind arith))
  own_says v (k ∷ ks) l p q = grind (arith, nat_tests, own_says v ks (drop_pending v k l) p q, pending_says v k l p q)
