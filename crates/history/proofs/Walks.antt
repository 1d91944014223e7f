-- What a read finds on its way down the versions.
use Rattle.std.proofs.Common.{◌≡◌, ℕ, ◌<◌, ◌≤◌, Bool, true, false, ◌||◌, eqb, ltb, ◌⊎◌, List, [], ◌∷◌, Some, None, Option, sym, refl, ap, ◌∙◌, inl, inr, arith}
use Rattle.std.proofs.lemmas.Bool.Decides.{nat_tests}
use Rattle.model.specs.declared.words.Record.{Record}
use Rattle.model.specs.declared.words.CommitEntry.{CommitEntry}
use Rattle.model.specs.declared.words.CommitEntry.TheVariants.{Committed, Aborted}
use Rattle.model.specs.declared.words.Phase.{Phase}
use Rattle.model.specs.declared.words.Phase.TheVariants.{Open, Validated, Settled}
use Rattle.model.specs.Maps.{is_there, look_up}
use Rattle.model.specs.Records.{record_of, record_at}
use Rattle.model.specs.Versions.{versions_down}
use Rattle.model.specs.Classes.{class_number}
use Rattle.model.specs.Transactions.{member, Transaction}
use Rattle.model.specs.State.{State}
use Rattle.history.specs.Past.{In}
use Rattle.history.proofs.Summaries.{Commit, Summary, Ordered}
use Rattle.model.proofs.Parts.{number_in, settled_in, row_number, validated_number, settled_number, has_key, committed_number, is_aborted, pending_value, record_number, record_value}
use Rattle.history.proofs.Facts.{Live, bound, Made, Kept, by_stamp, by_entry, hidden, Between, Right, Sound}
use Rattle.model.proofs.LookUps.{enter_says, mark_says, kinds, marked_says}
use Rattle.model.proofs.VersionLists.{Desc, class_says, down_mem, down_desc}
use Rattle.model.specs.declared.call.Answer.{Answer}
use Rattle.model.specs.declared.call.Answer.TheVariants.{Value}
use Rattle.model.proofs.Folds.{walk_keeps}
use Rattle.model.proofs.View.{Touch, t_abort, t_mark, Walk, w_end, w_full, w_none, w_late, w_dead, w_fenced, w_found, w_touch}
use Rattle.history.proofs.OrderKept.{val_unsealed, val_num}
use Rattle.history.proofs.Changes.{class_sound, touch_sound}

-- two commits of a key in order: a lower number is at most the other's start
ordered_under : {V : Type 0} (cs : List (Commit V)) → Ordered cs → (c d : Commit V) → In c cs → In d cs → (k : ℕ) (x y : V) → c.values k ≡ Some x → d.values k ≡ Some y → c.number < d.number → c.number ≤ d.start
ordered_under {V} [] O c d m n k x y e f l = absurd m
ordered_under {V} (b ∷ cs) O c d (inl p) (inl q) k x y e f l = absurd (grind (arith, ap (λ (a : Commit V). a.number) p, ap (λ (a : Commit V). a.number) q))
ordered_under {V} (b ∷ cs) O c d (inl p) (inr n) k x y e f l =
    let a = O.0 d n k x y (ap (λ (a : Commit V). a.values k) p ∙ e) f in
    let g = ap (λ (a : Commit V). a.number) p in
    let z = a.1 (omega arith) in omega arith
ordered_under {V} (b ∷ cs) O c d (inr m) (inl q) k x y e f l =
    let a = O.0 c m k y x (ap (λ (a : Commit V). a.values k) q ∙ f) e in
    let g = ap (λ (a : Commit V). a.number) q in
    let g' = ap (λ (a : Commit V). a.start) q in
    let z = a.2 (omega arith) in omega arith
ordered_under {V} (b ∷ cs) O c d (inr m) (inr n) k x y e f l = ordered_under cs O.1 c d m n k x y e f l

above_out : (v : ℕ) (vs : List ℕ) (j : ℕ) → Desc (v ∷ vs) → v < j → member j (v ∷ vs) ≡ false
above_out v vs j D l = pick (member j vs) refl
  where
    pick : (b : Bool) → member j vs ≡ b → (eqb j v || b) ≡ false
    pick true e = absurd (let a = D.0 j e in omega arith)
    pick false e = grind (arith, nat_tests)

module _ {V : Type 0} where
  -- of the versions not in the list: each record that is stamped, or pending with a committed entry, has a number from id on, and so has each live validated row with the key
  pub record Outside (s : State V) (id k : ℕ) (vs : List ℕ) : Type 0 where
    pub marks : (j n : ℕ) → member j vs ≡ false → record_number (record_at s.records k j) ≡ Some n → id ≤ n
    pub waits : (j n : ℕ) (x : V) → member j vs ≡ false → pending_value (record_at s.records k j) ≡ Some x → committed_number (look_up s.entries j) ≡ Some n → id ≤ n
    pub lives : (j c : ℕ) → member j vs ≡ false → validated_number (look_up s.rows j) ≡ Some c → Live s.fence s.entries j → has_key (look_up s.rows j) k ≡ true → id ≤ c

  -- no live validated row with the key and a number below id is without a commit between
  abbrev pub Blocks : State V → Summary V → ℕ → ℕ → Type 0
  Blocks s h id k = (j c : ℕ) → validated_number (look_up s.rows j) ≡ Some c → Live s.fence s.entries j → has_key (look_up s.rows j) k ≡ true → c < id → Between h.commits c id k

  pub record Seen (t : State V) (h : Summary V) (id k : ℕ) (o : Option V) : Type 0 where
    pub good : Right h.commits id k o
    pub blocks : Blocks t h id k

  touch_outside : (k v : ℕ) (s t : State V) (h : Summary V) → Touch k v s t → Sound s h → (id : ℕ) (vs : List ℕ) → Outside s id k vs → Outside t id k vs
  touch_outside k v s _ h (t_abort x p e) S id vs W = record {
    marks = W.marks;
    waits = λ j n y m q f. W.waits j n y m q (grind (arith, enter_says v Aborted s.entries j));
    lives = λ j c m f l y. W.lives j c m f (l.0, grind (arith, enter_says v Aborted s.entries j)) y;
  }
  touch_outside k v s _ h (t_mark n₀ e) S id vs W = record {
    marks = λ j n m f. grind (arith, mark_says k v n₀ s.records k j, marked_says n₀ (record_at s.records k j), kindly j, W.marks j n m, now j m);
    waits = λ j n y m q f. W.waits j n y m (grind (arith, mark_says k v n₀ s.records k j, marked_says n₀ (record_at s.records k j))) f;
    lives = W.lives;
  }
    where
      kindly : (j : ℕ) → (is_there (record_at s.records k j) ≡ true) ⊎ (record_at s.records k j ≡ None)
      kindly j = go (record_at s.records k j)
        where
          go : (o : Option (Record V)) → (is_there o ≡ true) ⊎ (o ≡ None)
          go None = inr refl
          go (Some r) = inl refl

      -- what stands at v has the number n₀, or waits for it
      now : (j : ℕ) → member j vs ≡ false → j ≡ v → is_there (record_at s.records k j) ≡ true → id ≤ n₀
      now j m q i = go (record_at s.records k j) refl i
        where
          ej : look_up s.entries j ≡ Some (Committed n₀)
          ej = ap (look_up s.entries) q ∙ e

          num : (r : Record V) (o : Option ℕ) → record_at s.records k j ≡ Some (record_of r.key r.version o r.value) → id ≤ n₀
          num r None p = W.waits j n₀ r.value m (ap pending_value p) (ap committed_number ej)
          num r (Some a) p = let b : a ≡ n₀ = S.tables.one_number k j a n₀ (ap committed_number ej) (ap record_number p) in let c = W.marks j a m (ap record_number p) in omega arith

          go : (o : Option (Record V)) → record_at s.records k j ≡ o → is_there o ≡ true → id ≤ n₀
          go None p i = absurd (grind arith)
          go (Some r) p i = num r r.number p

  touch_same : (k v : ℕ) (s t : State V) → Touch k v s t → (bound t ≡ bound s) × (t.floor ≡ s.floor)
  touch_same k v s _ (t_abort x p e) = (refl, refl)
  touch_same k v s _ (t_mark n e) = (refl, refl)

  -- a live validated row with the key has its pending record
  live_held : (s : State V) (h : Summary V) → Sound s h → (j c k : ℕ) → validated_number (look_up s.rows j) ≡ Some c → Live s.fence s.entries j → has_key (look_up s.rows j) k ≡ true → is_there (pending_value (record_at s.records k j)) ≡ true
  live_held s h S j c k e l y = S.tables.held j k (val_unsealed (look_up s.rows j) c e) (omega (arith, S.time.floor_fence, l.0)) y

  -- one version more is outside
  outside_more : (s : State V) (h : Summary V) → Sound s h → (id k v : ℕ) (vs : List ℕ) → Outside s id k (v ∷ vs)
      → ((n : ℕ) → record_number (record_at s.records k v) ≡ Some n → id ≤ n) → ((n : ℕ) (x : V) → pending_value (record_at s.records k v) ≡ Some x → committed_number (look_up s.entries v) ≡ Some n → id ≤ n)
      → (is_there (pending_value (record_at s.records k v)) ≡ true → Live s.fence s.entries v → ⊥) → Outside s id k vs
  outside_more s h S id k v vs W a b d = record {
    marks = λ j n m e. pick j (id ≤ n) m (λ q. a n (ap (λ i. record_number (record_at s.records k i)) (sym q) ∙ e)) (λ m. W.marks j n m e);
    waits = λ j n x m e f. pick j (id ≤ n) m (λ q. b n x (ap (λ i. pending_value (record_at s.records k i)) (sym q) ∙ e) (ap (λ i. committed_number (look_up s.entries i)) (sym q) ∙ f)) (λ m. W.waits j n x m e f);
    lives = λ j c m e l y. pick j (id ≤ c) m (λ q. absurd (d (ap (λ i. is_there (pending_value (record_at s.records k i))) (sym q) ∙ live_held s h S j c k e l y) (rw q at l))) (λ m. W.lives j c m e l y);
  }
    where
      pick : (j : ℕ) (P : Type 0) → member j vs ≡ false → (j ≡ v → P) → (member j (v ∷ vs) ≡ false → P) → P
      pick j P m f g = go (eqb j v) refl
        where
          go : (x : Bool) → eqb j v ≡ x → P
          go true e = f (grind (arith, nat_tests))
          go false e = g (rw e m)

  module _ (h : Summary V) (id k : ℕ) where
    pub walk_sound : (vs : List ℕ) (s t : State V) (a : Answer V) → Walk id k vs s t a → Sound s h → id < bound s → Sound t h
    walk_sound vs s t a w S l =
        (walk_keeps (λ u. Sound u h × (id < bound u)) id k
        (λ v u x m p. (touch_sound k v u x h m p.0, let e = touch_same k v u x m in let b = p.1 in omega arith)) (λ u p. (class_sound u h p.0 k id p.1, p.1)) vs s t a w (S, l)).0

    -- the end: nothing was found
    at_end : (s : State V) → Sound s h → s.floor ≤ id → Outside s id k [] → Seen s h id k None
    at_end s S fl W = record {
      good = λ d y m e. go d y (S.tables.kept d k y m e);
      blocks = λ j c e l y b. absurd (let a = W.lives j c refl e l y in omega arith);
    }
      where
        go : (d : Commit V) (y : V) → Kept s.records s.entries s.floor k d.version d.number y → id ≤ d.number
        go d y (by_stamp a b) = W.marks d.version d.number refl a
        go d y (by_entry a b) = W.waits d.version d.number y refl a b
        go d y (hidden w m a b c) = absurd (let e = W.marks w m refl a in omega arith)

    -- the first record that answers is that of the greatest number below id
    at_found : (s : State V) → Sound s h → s.floor ≤ id → (v : ℕ) (vs : List ℕ) → Desc (v ∷ vs) → Outside s id k (v ∷ vs) → (n : ℕ) (x : V) → record_number (record_at s.records k v) ≡ Some n → record_value (record_at s.records k v) ≡ Some x → n < id → Seen s h id k (Some x)
    at_found s S fl v vs D W n x p q l = record {
      good = record {
        commit = M.commit;
        among = M.among;
        wrote_it = M.wrote_it;
        below_id = omega (arith, M.number_is);
        best = λ d y m e b. best d y m e b;
      };
      blocks = λ j c e f y b. between j c e f y b;
    }
      where
        M : Made h.commits v n k x
        M = S.tables.stamp_commit k v n x p q

        v_n : v ≤ n
        v_n = let a = S.time.commits M.commit M.among in omega (arith, M.version_is, M.number_is)

        -- a commit with a greater number stands at v or above
        upper : (d : Commit V) (y : V) → In d h.commits → d.values k ≡ Some y → n < d.number → v ≤ d.version
        upper d y m e g =
            let a = ordered_under h.commits S.order.ordered M.commit d M.among m k x y M.wrote_it e (omega (arith, M.number_is)) in
            let b = S.time.commits d m in omega (arith, M.number_is, v_n)

        -- a stamped number above n and below id is nowhere
        none_stamped : (j a : ℕ) → record_number (record_at s.records k j) ≡ Some a → n < a → a < id → v ≤ j → ⊥
        none_stamped j a e g b u = go (ltb v j) refl
          where
            go : (z : Bool) → ltb v j ≡ z → ⊥
            go true f = let c : v < j = grind (arith, nat_tests) in let r = W.marks j a (above_out v vs j D c) e in omega arith
            go false f = let c : j ≡ v = grind (arith, nat_tests) in let r : Some a ≡ Some n = sym e ∙ (ap (λ i. record_number (record_at s.records k i)) c ∙ p) in grind arith

        none : (d : Commit V) (y : V) → In d h.commits → d.values k ≡ Some y → d.number < id → n < d.number → Kept s.records s.entries s.floor k d.version d.number y → ⊥
        none d y m e b g (by_stamp a c) = none_stamped d.version d.number a g b (upper d y m e g)
        none d y m e b g (by_entry a c) = go (ltb v d.version) refl
          where
            u : v ≤ d.version
            u = upper d y m e g

            go : (z : Bool) → ltb v d.version ≡ z → ⊥
            go true f = let i : v < d.version = grind (arith, nat_tests) in let r = W.waits d.version d.number y (above_out v vs d.version D i) a c in omega arith
            go false f =
                let i : d.version ≡ v = grind (arith, nat_tests, u) in
                let r : pending_value (record_at s.records k v) ≡ Some y = ap (λ i. pending_value (record_at s.records k i)) (sym i) ∙ a in
                grind (arith, kinds (record_at s.records k v))
        none d y m e b g (hidden w a c f j) =
            none_stamped w a c (omega arith) (omega arith) (from (record_at s.records k w) refl)
          where
            from : (o : Option (Record V)) → record_at s.records k w ≡ o → v ≤ w
            from None r = absurd (grind arith)
            from (Some r₀) r =
                let N = S.tables.stamp_commit k w a r₀.value c (ap record_value r) in
                let t = upper N.commit r₀.value N.among N.wrote_it (omega (arith, N.number_is)) in
                omega (arith, N.version_is)

        best : (d : Commit V) (y : V) → In d h.commits → d.values k ≡ Some y → d.number < id → d.number ≤ M.commit.number
        best d y m e b = go (ltb n d.number) refl
          where
            go : (z : Bool) → ltb n d.number ≡ z → d.number ≤ M.commit.number
            go true f = absurd (none d y m e b (grind (arith, nat_tests)) (S.tables.kept d k y m e))
            go false f = let a : d.number ≤ n = grind (arith, nat_tests) in omega (arith, M.number_is)

        between : (j c : ℕ) → validated_number (look_up s.rows j) ≡ Some c → Live s.fence s.entries j → has_key (look_up s.rows j) k ≡ true → c < id → Between h.commits c id k
        between j c e f y b = record { commit = M.commit; value = x; among = M.among; wrote_it = M.wrote_it; above = greater_of; below_id = omega (arith, M.number_is) }
          where
            pends : is_there (pending_value (record_at s.records k j)) ≡ true
            pends = live_held s h S j c k e f y

            j_not_v : j ≡ v → ⊥
            j_not_v i = let r : is_there (pending_value (record_at s.records k v)) ≡ true = ap (λ i. is_there (pending_value (record_at s.records k i))) (sym i) ∙ pends in grind (arith, kinds (record_at s.records k v))

            j_not_over : v < j → ⊥
            j_not_over i = let a = W.lives j c (above_out v vs j D i) e f y in omega arith

            greater_of : c < M.commit.number
            greater_of = let a = S.order.val_commit j c k M.commit x e f y M.among M.wrote_it in grind (arith, a, j_not_v, j_not_over, v_n, M.number_is)

    pub walk_seen : (vs : List ℕ) (s t : State V) (a : Answer V) → Walk id k vs s t a → Sound s h → s.floor ≤ id → Desc vs → Outside s id k vs → (o : Option V) → a ≡ Value o → Seen t h id k o
    walk_seen _ s _ _ w_end S fl D W None e = let Z = at_end s S fl W in record { good = Z.good; blocks = Z.blocks }
    walk_seen _ s _ _ w_end S fl D W (Some x) e = absurd (grind arith)
    walk_seen _ s _ _ (w_full b) S fl D W o e = absurd (grind arith)
    walk_seen _ s t a (w_none {v = v} {vs = vs} p w) S fl D W o e = walk_seen vs s t a w S fl D.1
        (outside_more s h S id k v vs W (λ n q. absurd (grind arith)) (λ n x q r. absurd (grind arith)) (λ q r. grind arith)) o e
    walk_seen _ s t a (w_late {v = v} {vs = vs} n p q w) S fl D W o e = walk_seen vs s t a w S fl D.1
        (outside_more s h S id k v vs W (λ m r. grind arith) (λ m x r z. absurd (grind (arith, kinds (record_at s.records k v)))) (λ r z. grind (arith, kinds (record_at s.records k v)))) o e
    walk_seen _ s t a (w_dead {v = v} {vs = vs} x p q w) S fl D W o e = walk_seen vs s t a w S fl D.1
        (outside_more s h S id k v vs W (λ m r. absurd (grind (arith, kinds (record_at s.records k v)))) (λ m y r z. absurd (dead (look_up s.entries v) m q z)) (λ r z. grind (arith, z.1))) o e
      where
        dead : (e : Option CommitEntry) (m : ℕ) → is_aborted e ≡ true → committed_number e ≡ Some m → ⊥
        dead None m a b = grind arith
        dead (Some Aborted) m a b = grind arith
        dead (Some (Committed n)) m a b = grind arith
    walk_seen _ s t a (w_fenced {v = v} {vs = vs} x p q r w) S fl D W o e = walk_seen vs s t a w S fl D.1
        (outside_more s h S id k v vs W (λ m z. absurd (grind (arith, kinds (record_at s.records k v)))) (λ m y z b. absurd (grind arith)) (λ z b. omega (arith, b.0))) o e
    walk_seen _ s _ _ (w_found {v = v} {vs = vs} n x p q l) S fl D W None e = absurd (grind arith)
    walk_seen _ s _ _ (w_found {v = v} {vs = vs} n x p q l) S fl D W (Some y) e =
        let i : x ≡ y = cc in
        let Z = at_found s S fl v vs D W n y p (q ∙ ap Some i) l in record { good = Z.good; blocks = Z.blocks }
    walk_seen vs s t a (w_touch {v = v} {u = u} m w) S fl D W o e = let z = touch_same k v s u m in walk_seen vs u t a w (touch_sound k v s u h m S) (omega arith) D (touch_outside k v s u h m S id vs W) o e

  -- an answered read leaves the class number at least at its id, and the bound as it was
  pub walk_ends : (h : Summary V) (id k : ℕ) (vs : List ℕ) (s t : State V) (a : Answer V) → Walk id k vs s t a → Sound s h → (o : Option V) → a ≡ Value o → (id ≤ class_number t.classes k) × (bound t ≡ bound s)
  walk_ends h id k _ s _ _ w_end S o e = ((class_says k id s.classes k S.time.sixty_four).1, refl)
  walk_ends h id k _ s _ _ (w_full b) S o e = absurd (grind arith)
  walk_ends h id k _ s t a (w_none {vs = vs} p w) S o e = walk_ends h id k vs s t a w S o e
  walk_ends h id k _ s t a (w_late {vs = vs} n p q w) S o e = walk_ends h id k vs s t a w S o e
  walk_ends h id k _ s t a (w_dead {vs = vs} x p q w) S o e = walk_ends h id k vs s t a w S o e
  walk_ends h id k _ s t a (w_fenced {vs = vs} x p q r w) S o e = walk_ends h id k vs s t a w S o e
  walk_ends h id k _ s _ _ (w_found n x p q r) S o e = ((class_says k id s.classes k S.time.sixty_four).1, refl)
  walk_ends h id k vs s t a (w_touch {v = v} {u = u} m w) S o e =
      let z = touch_same k v s u m in
      let p = walk_ends h id k vs u t a w (touch_sound k v s u h m S) o e in (p.0, p.1 ∙ z.0)

  -- where a walk starts, the versions up to id are all in its list
  pub starts : (s : State V) (h : Summary V) → Sound s h → (id k : ℕ) → Outside s id k (versions_down s.records k id [])
  starts s h S id k = record {
    marks = λ j n m e. mark j n m e (record_at s.records k j) refl;
    waits = λ j n x m e f. let a = S.time.numbers j n (sealed j n f) in let b = greater_of j m (pended (record_at s.records k j) x e) in omega arith;
    lives = λ j c m e l y. let a = S.time.numbers j c (val_num (look_up s.rows j) c e) in let b = greater_of j m (pend_there (record_at s.records k j) (live_held s h S j c k e l y)) in omega arith;
  }
    where
      greater_of : (j : ℕ) → member j (versions_down s.records k id []) ≡ false → is_there (record_at s.records k j) ≡ true → id < j
      greater_of j m e = grind (arith, nat_tests, down_mem s.records k id j [])

      pended : (o : Option (Record V)) (x : V) → pending_value o ≡ Some x → is_there o ≡ true
      pended None x e = grind arith
      pended (Some r) x e = refl

      pend_there : (o : Option (Record V)) → is_there (pending_value o) ≡ true → is_there o ≡ true
      pend_there None e = e
      pend_there (Some r) e = refl

      sealed_num : (o : Option Transaction) (n : ℕ) → settled_number o ≡ Some n → row_number o ≡ Some n
      sealed_num None n e = e
      sealed_num (Some r) n e = go r.phase e
        where
          go : (p : Phase) → settled_in p ≡ Some n → number_in p ≡ Some n
          go Open e = grind arith
          go (Validated d) e = grind arith
          go (Settled d) e = e

      sealed : (j n : ℕ) → committed_number (look_up s.entries j) ≡ Some n → row_number (look_up s.rows j) ≡ Some n
      sealed j n f = sealed_num (look_up s.rows j) n (S.tables.sealing j ∙ f)

      mark : (j n : ℕ) → member j (versions_down s.records k id []) ≡ false → record_number (record_at s.records k j) ≡ Some n → (o : Option (Record V)) → record_at s.records k j ≡ o → id ≤ n
      mark j n m e None p = absurd (grind arith)
      mark j n m e (Some r) p =
          let N = S.tables.stamp_commit k j n r.value e (ap record_value p) in
          let a = S.time.commits N.commit N.among in
          let b = greater_of j m (ap is_there p) in
          omega (arith, N.version_is, N.number_is)

  pub starts_desc : (s : State V) (h : Summary V) → Sound s h → (id k : ℕ) → Desc (versions_down s.records k id [])
  starts_desc s h S id k = down_desc s.records k id [] S.tables.sorted tt (λ j i m e. absurd (grind arith))
