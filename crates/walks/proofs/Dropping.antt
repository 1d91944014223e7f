-- One turn of each pass of a sweep, and how many records there are after a mark or a drop. Assumes nothing.
use Rattle.std.proofs.Common.{◌≡◌, ℕ, suc, ◌+◌, ◌-◌, ◌<◌, ◌≤◌, Bool, true, false, cond, List, [], ◌∷◌, Some, None, Option, sym, refl, ap, ◌∙◌, subst, arith}
use Rattle.std.proofs.lemmas.Bool.Decides.{nat_tests}
use Rattle.model.specs.declared.words.Record.{Record}
use Rattle.model.specs.Records.{stands, Ascending, count, record_at, mark, drop_record}
use Rattle.model.specs.Versions.{versions_down, number_under}
use Rattle.model.specs.State.{State}
use Rattle.model.specs.Sweeping.{sweep_rec, sweep_number, sweep_down, drop_low, low_under, sweep_under}
use Rattle.model.proofs.Newest.{under, down_drop}
use Rattle.versions.specs.Down.{older}
use Rattle.versions.proofs.Going.{from, Met, from_next, under_same}
use Rattle.walks.proofs.Finding.{after_none}

module _ {V : Type 0} where
  pub count_mark : (k v n : ℕ) (l : List (Record V)) → count (mark k v n l) ≡ count l
  unfolding mark
  count_mark k v n [] = refl
  count_mark k v n (c ∷ l) = ap suc (count_mark k v n l)

  drop_none : (k v : ℕ) (l : List (Record V)) → record_at l k v ≡ None → drop_record k v l ≡ l
  unfolding record_at drop_record
  drop_none k v [] e = refl
  drop_none k v (c ∷ l) e = go (stands k v c) e (drop_none k v l)
    where
      go : (b : Bool) → cond b (Some c) (record_at l k v) ≡ None → (record_at l k v ≡ None → drop_record k v l ≡ l) → cond b (drop_record k v l) (c ∷ drop_record k v l) ≡ c ∷ l
      go true e on = absurd (grind arith)
      go false e on = ap (λ t. c ∷ t) (on e)

  pub count_drop : (k v : ℕ) (l : List (Record V)) (r : Record V) → Ascending l → record_at l k v ≡ Some r → count l ≡ suc (count (drop_record k v l))
  unfolding record_at drop_record
  count_drop k v [] r A e = absurd (grind arith)
  count_drop k v (c ∷ l) r A e = go (stands k v c) refl e (count_drop k v l r A.1)
    where
      go : (b : Bool) → stands k v c ≡ b → cond b (Some c) (record_at l k v) ≡ Some r → (record_at l k v ≡ Some r → count l ≡ suc (count (drop_record k v l)))
          → count (c ∷ l) ≡ suc (count (cond b (drop_record k v l) (c ∷ drop_record k v l)))
      go true f e on =
          let i : k ≡ c.key = grind (arith, nat_tests) in
          let j : v ≤ c.version = grind (arith, nat_tests) in
          let z : record_at l k v ≡ None = rw i (after_none c l v A.0 j) in
          ap (λ t. suc (count t)) (sym (drop_none k v l z))
      go false f e on = ap suc (on e)

  -- where d is l without the record of k at v, it has one record less
  module _ (k v : ℕ) (l d : List (Record V)) (r : Record V) (A : Ascending l) (at : record_at l k v ≡ Some r) (e : d ≡ drop_record k v l) where
    pub fewer_by_one : (n : ℕ) → n + (count l - count d) ≡ suc n
    fewer_by_one n =
        let a = count_drop k v l r A at in
        let b : count d ≡ count (drop_record k v l) = ap (λ (t : List (Record V)). count t) e in
        omega arith

    pub no_more : count d ≤ count l
    no_more =
        let a = count_drop k v l r A at in
        let b : count d ≡ count (drop_record k v l) = ap (λ (t : List (Record V)). count t) e in
        omega arith

    pub lower_same : (b : ℕ) → b < v → versions_down d k b [] ≡ versions_down l k b []
    lower_same b h = ap (λ t. versions_down t k b []) e ∙ down_drop k v l b [] h

  -- a pass: what it does at each version of k, and then at the versions below
  module _ (k : ℕ) (pass : List ℕ → State V → ℕ → State V × ℕ) (turn : ℕ → State V → ℕ → Option (Record V) → State V × ℕ)
      (none : (s : State V) (n : ℕ) → pass [] s n ≡ (s, n))
      (more : (v : ℕ) (vs : List ℕ) (s : State V) (n : ℕ) → pass (v ∷ vs) s n ≡ pass vs (turn v s n (record_at s.records k v)).0 (turn v s n (record_at s.records k v)).1) where
    pass_more : (s t : State V) (n m : ℕ) (o : Option (Record V)) (r : Record V) (x : Option (Record V)) → Met s.records k o → o ≡ Some r → (t, m) ≡ turn r.version s n (Some r) → Ascending t.records
        → ((b : ℕ) → b < r.version → versions_down t.records k b [] ≡ versions_down s.records k b []) → older k r.version t.records ≡ x → pass (from t.records k x) t m ≡ pass (from s.records k o) s n
    pass_more s t n m o r x M i j A same e =
        let at : record_at s.records k r.version ≡ Some r = subst (λ (y : Option (Record V)). Met s.records k y) i M in
        let us = under s.records k r.version [] in
        ap (λ vs. pass vs t m) (sym (from_next t.records k r.version x A e) ∙ under_same t.records s.records k r.version same)
        ∙ (ap (λ (p : State V × ℕ). pass us p.0 p.1) j
        ∙ (ap (λ y. pass us (turn r.version s n y).0 (turn r.version s n y).1) (sym at)
        ∙ (sym (more r.version us s n)
        ∙ ap (λ (y : Option (Record V)). pass (from s.records k y) s n) (sym i))))

    pass_all : (s : State V) (n : ℕ) (o : Option (Record V)) → o ≡ None → pass (from s.records k o) s n ≡ (s, n)
    pass_all s n o i = ap (λ (y : Option (Record V)). pass (from s.records k y) s n) i ∙ none s n

  -- the pass over the pending records
  pub sweep_more : (k : ℕ) (s t : State V) (n m : ℕ) (o : Option (Record V)) (r : Record V) (x : Option (Record V)) → Met s.records k o → o ≡ Some r → (t, m) ≡ sweep_number k r.version s n r.number → Ascending t.records
      → ((b : ℕ) → b < r.version → versions_down t.records k b [] ≡ versions_down s.records k b []) → older k r.version t.records ≡ x → sweep_down k (from t.records k x) t m ≡ sweep_down k (from s.records k o) s n
  unfolding sweep_down
  sweep_more k = pass_more k (sweep_down k) (sweep_rec k) (λ s n. refl) (λ v vs s n. refl)

  pub sweep_all : (k : ℕ) (s : State V) (n : ℕ) (o : Option (Record V)) → o ≡ None → sweep_down k (from s.records k o) s n ≡ (s, n)
  unfolding sweep_down
  sweep_all k = pass_all k (sweep_down k) (sweep_rec k) (λ s n. refl) (λ v vs s n. refl)

  -- the pass over the stamped records
  pub under_more : (k c : ℕ) (s t : State V) (n m : ℕ) (o : Option (Record V)) (r : Record V) (x : Option (Record V)) → Met s.records k o → o ≡ Some r → (t, m) ≡ drop_low k r.version s n (number_under c r.number) → Ascending t.records
      → ((b : ℕ) → b < r.version → versions_down t.records k b [] ≡ versions_down s.records k b []) → older k r.version t.records ≡ x → sweep_under k c (from t.records k x) t m ≡ sweep_under k c (from s.records k o) s n
  unfolding sweep_under
  under_more k c = pass_more k (sweep_under k c) (λ v s n o. drop_low k v s n (low_under c o)) (λ s n. refl) (λ v vs s n. refl)

  pub under_all : (k c : ℕ) (s : State V) (n : ℕ) (o : Option (Record V)) → o ≡ None → sweep_under k c (from s.records k o) s n ≡ (s, n)
  unfolding sweep_under
  under_all k c = pass_all k (sweep_under k c) (λ v s n o. drop_low k v s n (low_under c o)) (λ s n. refl) (λ v vs s n. refl)
