-- What a key holds after some commits is what the one with the greatest number wrote.
use Rattle.std.proofs.Common.{◌≡◌, ℕ, ◌<◌, ◌≤◌, Bool, true, false, cond, ltb, leb, ◌⊎◌, List, [], ◌∷◌, Some, None, Option, refl, ap, ◌∙◌, subst, inl, inr, ⊎_elim, arith}
use Rattle.std.proofs.lemmas.Bool.Decides.{nat_tests}
use Rattle.history.specs.Past.{Commit, In}
use Rattle.history.specs.Keys.{insert, in_order, apply, below, holds, or_else}
use Rattle.history.specs.Law.{Ordered}
use Rattle.history.proofs.Facts.{Right as Right⁺}
use Rattle.history.proofs.Summaries.{Commit as Commit⁺, Ordered as Ordered⁺, plain, plains, from, in_plains, ordered_plains}
use Rattle.history.proofs.TimeKept.{in_cons}

module _ {V : Type 0} where
  -- the commit of k that has the greatest number below id, and wrote x
  record Best (cs : List (Commit V)) (id k : ℕ) (x : V) : Type 0 where
    commit : Commit V
    among : In commit cs
    wrote_it : commit.values k ≡ Some x
    below_id : commit.number < id
    best : (d : Commit V) (y : V) → In d cs → d.values k ≡ Some y → d.number < id → d.number ≤ commit.number

  -- what a reader at id should find
  abbrev Right : List (Commit V) → ℕ → ℕ → Option V → Type 0
  Right cs id k None = (d : Commit V) (y : V) → In d cs → d.values k ≡ Some y → id ≤ d.number
  Right cs id k (Some x) = Best cs id k x

  plain_right : (cs : List (Commit⁺ V)) (id k : ℕ) (o : Option V) → Right⁺ cs id k o → Right (plains cs) id k o
  plain_right cs id k None R = λ d y m e.
      let F = from cs d m in
      subst (λ (c : Commit V). id ≤ c.number) F.same (R F.commit y F.among (ap (λ (c : Commit V). c.values k) F.same ∙ e))
  plain_right cs id k (Some x) R = record {
    commit = plain R.commit;
    among = in_plains cs R.commit R.among;
    wrote_it = R.wrote_it;
    below_id = R.below_id;
    best = λ d y m e l.
        let F = from cs d m in
        let n : F.commit.number ≡ d.number = ap (λ (c : Commit V). c.number) F.same in
        let b = R.best F.commit y F.among (ap (λ (c : Commit V). c.values k) F.same ∙ e) (omega arith) in
        omega arith;
  }

  -- the greatest number on k: nothing wrote k, or a commit that wrote x and has no greater number above it
  pub record Top (cs : List (Commit V)) (k : ℕ) (x : V) : Type 0 where
    pub commit : Commit V
    pub among : In commit cs
    pub wrote_it : commit.values k ≡ Some x
    pub most : (d : Commit V) (y : V) → In d cs → d.values k ≡ Some y → d.number ≤ commit.number

  abbrev pub Greatest : List (Commit V) → ℕ → Option V → Type 0
  Greatest cs k None = (d : Commit V) (y : V) → In d cs → d.values k ≡ Some y → ⊥
  Greatest cs k (Some x) = Top cs k x

  -- commits in order of their numbers
  abbrev Asc : List (Commit V) → Type 0
  Asc [] = Unit {0}
  Asc (c ∷ cs) = ((d : Commit V) → In d cs → c.number ≤ d.number) × Asc cs

  insert_in : (c : Commit V) (l : List (Commit V)) (d : Commit V) → In d (insert c l) → (c ≡ d) ⊎ In d l
  unfolding insert
  insert_in c [] d m = m
  insert_in c (e ∷ l) d m = go (insert_in c l d) (leb e.number c.number) m
    where
      go : (In d (insert c l) → (c ≡ d) ⊎ In d l) → (b : Bool) → In d (cond b (e ∷ insert c l) (c ∷ e ∷ l)) → (c ≡ d) ⊎ ((e ≡ d) ⊎ In d l)
      go f true (inl p) = inr (inl p)
      go f true (inr m) = ⊎_elim (λ p. inl p) (λ m. inr (inr m)) (f m)
      go f false m = m

  in_insert : (c : Commit V) (l : List (Commit V)) (d : Commit V) → (c ≡ d) ⊎ In d l → In d (insert c l)
  unfolding insert
  in_insert c [] d m = m
  in_insert c (e ∷ l) d m = go (in_insert c l d) (leb e.number c.number) m
    where
      go : ((c ≡ d) ⊎ In d l → In d (insert c l)) → (b : Bool) → (c ≡ d) ⊎ ((e ≡ d) ⊎ In d l) → In d (cond b (e ∷ insert c l) (c ∷ e ∷ l))
      go f true (inl p) = inr (f (inl p))
      go f true (inr (inl p)) = inl p
      go f true (inr (inr m)) = inr (f (inr m))
      go f false m = m

  asc_insert : (c : Commit V) (l : List (Commit V)) → Asc l → Asc (insert c l)
  unfolding insert
  asc_insert c [] A = (λ d m. absurd m, tt)
  asc_insert c (e ∷ l) A = go (asc_insert c l A.1) (leb e.number c.number) refl
    where
      go : Asc (insert c l) → (b : Bool) → leb e.number c.number ≡ b → Asc (cond b (e ∷ insert c l) (c ∷ e ∷ l))
      go R true p = (λ d m. ⊎_elim (λ q. let r = ap (λ (a : Commit V). a.number) q in grind (arith, nat_tests)) (λ m. A.0 d m) (insert_in c l d m), R)
      go R false p = (in_cons (λ d. c.number ≤ d.number) e l (grind (arith, nat_tests)) (λ d m. let r = A.0 d m in grind (arith, nat_tests)), A)

  order_asc : (cs : List (Commit V)) → Asc (in_order cs)
  unfolding in_order
  order_asc [] = tt
  order_asc (c ∷ cs) = asc_insert c (in_order cs) (order_asc cs)

  order_in : (cs : List (Commit V)) (d : Commit V) → In d (in_order cs) → In d cs
  unfolding in_order
  order_in [] d m = m
  order_in (c ∷ cs) d m = ⊎_elim (λ p. inl p) (λ m. inr (order_in cs d m)) (insert_in c (in_order cs) d m)

  in_in_order : (cs : List (Commit V)) (d : Commit V) → In d cs → In d (in_order cs)
  unfolding in_order
  in_in_order [] d m = m
  in_in_order (c ∷ cs) d m = in_insert c (in_order cs) d (⊎_elim (λ p. inl p) (λ m. inr (in_in_order cs d m)) m)

  -- a commit that did not write k changes nothing there
  insert_silent : (c : Commit V) (l : List (Commit V)) (k : ℕ) (o : Option V) → c.values k ≡ None → apply (insert c l) k o ≡ apply l k o
  unfolding insert apply
  insert_silent c [] k o e = ap (λ p. or_else p o) e
  insert_silent c (d ∷ l) k o e = go (λ o. insert_silent c l k o e) (leb d.number c.number)
    where
      go : ((o : Option V) → apply (insert c l) k o ≡ apply l k o) → (b : Bool) → apply (cond b (d ∷ insert c l) (c ∷ d ∷ l)) k o ≡ apply (d ∷ l) k o
      go f true = f (or_else (d.values k) o)
      go f false = ap (λ p. apply l k (or_else (d.values k) (or_else p o))) e

  -- where one commit wrote k, what it held before makes no difference
  apply_any : (l : List (Commit V)) (k : ℕ) (b : Commit V) (x : V) → In b l → b.values k ≡ Some x → (o p : Option V) → apply l k o ≡ apply l k p
  unfolding apply
  apply_any [] k b x m e o p = absurd m
  apply_any (d ∷ l) k b x (inl q) e o p = let f : d.values k ≡ Some x = ap (λ (a : Commit V). a.values k) q ∙ e in rw f refl
  apply_any (d ∷ l) k b x (inr m) e o p = apply_any l k b x m e (or_else (d.values k) o) (or_else (d.values k) p)

  -- a commit under a greater one changes nothing
  insert_under : (c : Commit V) (l : List (Commit V)) (k : ℕ) (o : Option V) (b : Commit V) (x : V) → In b l → b.values k ≡ Some x → c.number < b.number → apply (insert c l) k o ≡ apply l k o
  unfolding insert apply
  insert_under c [] k o b x m e lt = absurd m
  insert_under c (d ∷ l) k o b x m e lt = go (λ o m. insert_under c l k o b x m e lt) (leb d.number c.number) refl m
    where
      go : ((o : Option V) → In b l → apply (insert c l) k o ≡ apply l k o) → (z : Bool) → leb d.number c.number ≡ z → (d ≡ b) ⊎ In b l → apply (cond z (d ∷ insert c l) (c ∷ d ∷ l)) k o ≡ apply (d ∷ l) k o
      go f true p (inl q) = absurd (let r = ap (λ (a : Commit V). a.number) q in grind (arith, nat_tests))
      go f true p (inr m) = f (or_else (d.values k) o) m
      go f false p m = apply_any (d ∷ l) k b x m e (or_else (c.values k) o) o

  -- commits that did not write k
  apply_silent : (l : List (Commit V)) (k : ℕ) (o : Option V) → ((d : Commit V) (y : V) → In d l → d.values k ≡ Some y → ⊥) → apply l k o ≡ o
  unfolding apply
  apply_silent [] k o f = refl
  apply_silent (d ∷ l) k o f = go (apply_silent l k o (λ e y m w. f e y (inr m) w)) (d.values k) refl
    where
      go : apply l k o ≡ o → (v : Option V) → d.values k ≡ v → apply l k (or_else v o) ≡ o
      go h None e = h
      go h (Some y) e = absurd (f d y (inl refl) e)

  -- the greatest of all is seen
  insert_top : (c : Commit V) (l : List (Commit V)) (k : ℕ) (o : Option V) (x : V) → Asc l → c.values k ≡ Some x → ((d : Commit V) (y : V) → In d l → d.values k ≡ Some y → d.number ≤ c.number) → apply (insert c l) k o ≡ Some x
  unfolding insert apply
  insert_top c [] k o x A e f = ap (λ p. or_else p o) e
  insert_top c (d ∷ l) k o x A e f = go (λ o. insert_top c l k o x A.1 e (λ d y m w. f d y (inr m) w)) (leb d.number c.number) refl
    where
      go : ((o : Option V) → apply (insert c l) k o ≡ Some x) → (z : Bool) → leb d.number c.number ≡ z → apply (cond z (d ∷ insert c l) (c ∷ d ∷ l)) k o ≡ Some x
      go g true p = g (or_else (d.values k) o)
      go g false p =
          ap (λ q. apply (d ∷ l) k (or_else q o)) e
          ∙ apply_silent (d ∷ l) k (Some x) (λ a y m w. let r = f a y m w in let t : d.number ≤ a.number = in_cons (λ a. d.number ≤ a.number) d l (omega arith) A.0 a m in grind (arith, nat_tests))

  pub holds_greatest : (cs : List (Commit V)) (k : ℕ) (o : Option V) → Ordered cs → Greatest cs k o → holds cs k ≡ o
  unfolding in_order
  holds_greatest [] k None O G = unfold apply in refl
  holds_greatest [] k (Some x) O G = absurd G.among
  holds_greatest (c ∷ cs) k None O G = go (c.values k) refl (holds_greatest cs k None O.1 (λ d y m e. G d y (inr m) e))
    where
      go : (v : Option V) → c.values k ≡ v → holds cs k ≡ None → apply (insert c (in_order cs)) k None ≡ None
      go None e h = insert_silent c (in_order cs) k None e ∙ h
      go (Some y) e h = absurd (G c y (inl refl) e)
  holds_greatest (c ∷ cs) k (Some x) O G = go G.among (λ m. holds_greatest cs k (Some x) O.1 (record { commit = G.commit; among = m; wrote_it = G.wrote_it; most = λ d y n e. G.most d y (inr n) e }))
    where
      go : (c ≡ G.commit) ⊎ In G.commit cs → (In G.commit cs → holds cs k ≡ Some x) → apply (insert c (in_order cs)) k None ≡ Some x
      go (inl p) f =
          let n = ap (λ (a : Commit V). a.number) p in
          insert_top c (in_order cs) k None x (order_asc cs) (ap (λ (a : Commit V). a.values k) p ∙ G.wrote_it) (λ d y m e. let r = G.most d y (inr (order_in cs d m)) e in omega arith)
      go (inr m) f = val (c.values k) refl
        where
          val : (v : Option V) → c.values k ≡ v → apply (insert c (in_order cs)) k None ≡ Some x
          val None e = insert_silent c (in_order cs) k None e ∙ f m
          val (Some y) e =
              let r = G.most c y (inl refl) e in
              let d = O.0 G.commit m k y x e G.wrote_it in
              let lt : c.number < G.commit.number = grind (arith, r, d.0) in
              insert_under c (in_order cs) k None G.commit x (in_in_order cs G.commit m) G.wrote_it lt ∙ f m

  -- the commits below a number
  pub below_in : (n : ℕ) (cs : List (Commit V)) (d : Commit V) → In d (below n cs) → In d cs × (d.number < n)
  unfolding below
  below_in n [] d m = absurd m
  below_in n (c ∷ cs) d m = go (below_in n cs d) (ltb c.number n) refl m
    where
      go : (In d (below n cs) → In d cs × (d.number < n)) → (b : Bool) → ltb c.number n ≡ b → In d (cond b (c ∷ below n cs) (below n cs)) → ((c ≡ d) ⊎ In d cs) × (d.number < n)
      go f true e (inl p) = (inl p, let r = ap (λ (a : Commit V). a.number) p in grind (arith, nat_tests))
      go f true e (inr m) = let q = f m in (inr q.0, q.1)
      go f false e m = let q = f m in (inr q.0, q.1)

  pub in_below : (n : ℕ) (cs : List (Commit V)) (d : Commit V) → In d cs → d.number < n → In d (below n cs)
  unfolding below
  in_below n [] d m l = absurd m
  in_below n (c ∷ cs) d m l = go (λ m. in_below n cs d m l) (ltb c.number n) refl m
    where
      go : (In d cs → In d (below n cs)) → (b : Bool) → ltb c.number n ≡ b → (c ≡ d) ⊎ In d cs → In d (cond b (c ∷ below n cs) (below n cs))
      go f true e (inl p) = inl p
      go f true e (inr m) = inr (f m)
      go f false e (inl p) = absurd (let r = ap (λ (a : Commit V). a.number) p in grind (arith, nat_tests))
      go f false e (inr m) = f m

  pub ordered_below : (n : ℕ) (cs : List (Commit V)) → Ordered cs → Ordered (below n cs)
  unfolding below
  ordered_below n [] O = tt
  ordered_below n (c ∷ cs) O = go (ordered_below n cs O.1) (ltb c.number n)
    where
      go : Ordered (below n cs) → (b : Bool) → Ordered (cond b (c ∷ below n cs) (below n cs))
      go P true = (λ d m. O.0 d (below_in n cs d m).0, P)
      go P false = P

  -- a reader that is right answers what the commits below it left
  plain_holds : (cs : List (Commit V)) (id k : ℕ) (o : Option V) → Ordered cs → Right cs id k o → holds (below id cs) k ≡ o
  plain_holds cs id k None O R = holds_greatest (below id cs) k None (ordered_below id cs O) (λ d y m e. let p = below_in id cs d m in let q = R d y p.0 e in omega (arith, p.1))
  plain_holds cs id k (Some x) O R = holds_greatest (below id cs) k (Some x) (ordered_below id cs O)
      (record { commit = R.commit; among = in_below id cs R.commit R.among R.below_id; wrote_it = R.wrote_it; most = λ d y m e. let p = below_in id cs d m in R.best d y p.0 e p.1 })

  -- and where all are below it, what they all left
  plain_holds_all : (cs : List (Commit V)) (id k : ℕ) (o : Option V) → Ordered cs → ((d : Commit V) → In d cs → d.number < id) → Right cs id k o → holds cs k ≡ o
  plain_holds_all cs id k None O f R = holds_greatest cs k None O (λ d y m e. let q = R d y m e in let p = f d m in omega arith)
  plain_holds_all cs id k (Some x) O f R = holds_greatest cs k (Some x) O (record { commit = R.commit; among = R.among; wrote_it = R.wrote_it; most = λ d y m e. R.best d y m e (f d m) })

  -- the same of the proof's commits
  pub right_holds : (cs : List (Commit⁺ V)) (id k : ℕ) (o : Option V) → Ordered⁺ cs → Right⁺ cs id k o → holds (below id (plains cs)) k ≡ o
  right_holds cs id k o O R = plain_holds (plains cs) id k o (ordered_plains cs O) (plain_right cs id k o R)

  pub right_holds_all : (cs : List (Commit⁺ V)) (id k : ℕ) (o : Option V) → Ordered⁺ cs → ((d : Commit⁺ V) → In d cs → d.number < id) → Right⁺ cs id k o → holds (plains cs) k ≡ o
  right_holds_all cs id k o O f R = plain_holds_all (plains cs) id k o (ordered_plains cs O)
      (λ d m. let F = from cs d m in subst (λ (c : Commit V). c.number < id) F.same (f F.commit F.among)) (plain_right cs id k o R)
