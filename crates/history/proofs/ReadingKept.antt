-- Reading: what each change leaves of the facts on answered reads.
use Rattle.std.proofs.Common.{◌≡◌, ℕ, ◌<◌, ◌≤◌, Bool, true, false, ltb, List, ◌∷◌, Some, None, Option, sym, refl, ap, ◌∙◌, inr, ⊎_elim, arith}
use Rattle.std.proofs.lemmas.Bool.Decides.{nat_tests}
use Rattle.model.specs.declared.words.CommitEntry.TheVariants.{Committed, Aborted}
use Rattle.model.specs.declared.words.Phase.TheVariants.{Validated, Settled}
use Rattle.model.specs.Maps.{is_there, look_up, enter}
use Rattle.model.specs.Classes.{class_number}
use Rattle.model.specs.Transactions.{Transaction, transaction}
use Rattle.model.specs.State.{State, with_rows, with_entries, with_floor, taken_over, raise_class_of}
use Rattle.model.specs.Stamping.{row_gone}
use Rattle.model.specs.Settling.{settled}
use Rattle.history.specs.Past.{AnsweredRead, In}
use Rattle.history.proofs.Summaries.{Commit, Summary, settled_commit, fast_commit}
use Rattle.model.proofs.Parts.{validated_in, validated_number, has_key, is_aborted}
use Rattle.history.proofs.Facts.{Live, Between, Right, Time, Tables, Reading}
use Rattle.model.proofs.LookUps.{enter_says, remove_says}
use Rattle.model.proofs.VersionLists.{class_says}
use Rattle.history.proofs.TimeKept.{add_commit, add_read, in_cons}

module _ {V : Type 0} where
  between_more : (c : Commit V) (cs : List (Commit V)) (n id k : ℕ) → Between cs n id k → Between (c ∷ cs) n id k
  between_more c cs n id k M = record { commit = M.commit; value = M.value; among = inr M.among; wrote_it = M.wrote_it; above = M.above; below_id = M.below_id }

  -- one more commit leaves a reader right, if it is not below the reader, or has a greater one between
  right_more : (c : Commit V) (cs : List (Commit V)) (id k : ℕ) (o : Option V) → ((x : V) → c.values k ≡ Some x → c.number < id → Between cs c.number id k) → Right cs id k o → Right (c ∷ cs) id k o
  right_more c cs id k None f r = in_none
    where
      test : (y : V) → c.values k ≡ Some y → (b : Bool) → ltb c.number id ≡ b → id ≤ c.number
      test y e true g = let M = f y e (grind (arith, nat_tests)) in let z = r M.commit M.value M.among M.wrote_it in absurd (grind (arith, M.below_id))
      test y e false g = grind (arith, nat_tests)

      in_none : (d : Commit V) (y : V) → In d (c ∷ cs) → d.values k ≡ Some y → id ≤ d.number
      in_none d y m e = in_cons (λ d. d.values k ≡ Some y → id ≤ d.number) c cs (λ e. test y e (ltb c.number id) refl) (λ d m e. r d y m e) d m e
  right_more c cs id k (Some x) f r = record {
    commit = r.commit;
    among = inr r.among;
    wrote_it = r.wrote_it;
    below_id = r.below_id;
    best = λ d y m e l. in_cons (λ d. d.values k ≡ Some y → d.number < id → d.number ≤ r.commit.number) c cs
        (λ e l. let M = f y e l in let z = r.best M.commit M.value M.among M.wrote_it M.below_id in grind (arith, M.above)) (λ d m e l. r.best d y m e l) d m e l;
  }

-- a class number rises
module _ {V : Type 0} (s : State V) (h : Summary V) (T : Time s h) (R : Reading s h) (k₀ n₀ : ℕ) where
  pub class_reading : Reading (raise_class_of k₀ n₀ s) (h)
  class_reading =
      record {
        class_over = λ r m. let a = R.class_over r m in grind (arith, class_says k₀ n₀ s.classes r.key T.sixty_four);
        owned = R.owned;
        right = R.right;
        blocked = R.blocked;
      }

-- an entry is aborted
module _ {V : Type 0} (s : State V) (h : Summary V) (R : Reading s h) (v₀ : ℕ) where
  pub abort_reading : Reading (with_entries (enter v₀ Aborted s.entries) s) (h)
  abort_reading =
      record {
        class_over = R.class_over;
        owned = R.owned;
        right = R.right;
        blocked = λ r j c m o e l y b. R.blocked r j c m o e (l.0, grind (arith, enter_says v₀ Aborted s.entries j)) y b;
      }

-- floor and fence rise
module _ {V : Type 0} (s : State V) (h : Summary V) (R : Reading s h) (h₀ : ℕ) where
  pub raise_reading : Reading (with_floor h₀ s) (h)
  raise_reading =
      record {
        class_over = R.class_over;
        owned = R.owned;
        right = R.right;
        blocked = λ r j c m o e l y b. R.blocked r j c m o e (omega arith, l.1) y b;
      }

-- a seat takes over
module _ {V : Type 0} (s : State V) (h : Summary V) (R : Reading s h) (q₀ : ℕ) where
  pub take_reading : Reading (taken_over q₀ s) (h)
  take_reading =
      record {
        class_over = R.class_over;
        owned = R.owned;
        right = R.right;
        blocked = λ r j c m o e l y b. R.blocked r j c m o e (omega arith, l.1) y b;
      }

-- a row and its entry go
module _ {V : Type 0} (s : State V) (h : Summary V) (R : Reading s h) (id : ℕ) where
  pub gone_reading : Reading (row_gone id s) (h)
  gone_reading =
      record {
        class_over = R.class_over;
        owned = R.owned;
        right = R.right;
        blocked = λ r j c m o e l y b. R.blocked r j c m o (grind (arith, remove_says id s.rows j)) (l.0, grind (arith, remove_says id s.rows j, remove_says id s.entries j)) (grind (arith, remove_says id s.rows j)) b;
      }

-- a row changes, and is not validated
module _ {V : Type 0} (s : State V) (h : Summary V) (R : Reading s h) (id : ℕ) (r₀ : Transaction) (quiet : validated_in r₀.phase ≡ None) where
  pub row_reading : Reading (with_rows (enter id r₀ s.rows) s) (h)
  row_reading =
      record {
        class_over = R.class_over;
        owned = R.owned;
        right = R.right;
        blocked = λ r j c m o e l y b. R.blocked r j c m o (grind (arith, enter_says id r₀ s.rows j)) l (grind (arith, enter_says id r₀ s.rows j)) b;
      }

-- a row is validated above every reader
module _ {V : Type 0} (s : State V) (h : Summary V) (R : Reading s h) (id c₀ : ℕ) (ks : List ℕ) (n₀ : ℕ) (late : (r : AnsweredRead V) → In r h.reads → r.id ≤ c₀) where
  pub validate_reading : Reading (with_rows (enter id (transaction (Validated c₀) ks n₀) s.rows) s) (h)
  validate_reading =
      record {
        class_over = R.class_over;
        owned = R.owned;
        right = R.right;
        blocked = λ r j c m o e l y b. let a = late r m in ⊎_elim (λ p. absurd (grind arith)) (λ p. R.blocked r j c m o (ap validated_number (sym p.1) ∙ e) l (ap (λ q. has_key q r.key) (sym p.1) ∙ y) b) (enter_says id (transaction (Validated c₀) ks n₀) s.rows j);
      }

-- a live validated row settles
module _ {V : Type 0} (s : State V) (h : Summary V) (B : Tables s h) (R : Reading s h) (id c₀ : ℕ) (ks : List ℕ) (n₀ : ℕ) (at : look_up s.rows id ≡ Some (transaction (Validated c₀) ks n₀)) (fe : s.fence ≤ id) (na : is_aborted (look_up s.entries id) ≡ false) where
  pub settle_reading : Reading (settled id c₀ ks n₀ (enter id (Committed c₀) s.entries) s).0 (add_commit (settled_commit id c₀ (h.writes id)) h)
  settle_reading =
      record {
        class_over = R.class_over;
        owned = R.owned;
        right = λ r m o. right_more (settled_commit id c₀ (h.writes id)) h.commits r.id r.key r.answer (λ x e l. R.blocked r id c₀ m o (ap validated_number at) (fe, na) (B.keyed id r.key (ap is_there at) ∙ ap is_there e) l) (R.right r m o);
        blocked = λ r j c m o e l y b. between_more (settled_commit id c₀ (h.writes id)) h.commits c r.id r.key (R.blocked r j c m o (grind (arith, enter_says id (transaction (Settled c₀) ks n₀) s.rows j)) (l.0, grind (arith, enter_says id (transaction (Settled c₀) ks n₀) s.rows j, enter_says id (Committed c₀) s.entries j)) (grind (arith, enter_says id (transaction (Settled c₀) ks n₀) s.rows j)) b);
      }

-- a fast commit above every reader of its key
module _ {V : Type 0} (s : State V) (h : Summary V) (R : Reading s h) (m₀ k₀ f₀ : ℕ) (x₀ : V) (late : (r : AnsweredRead V) → In r h.reads → r.key ≡ k₀ → r.id ≤ f₀) where
  pub fast_reading : Reading (s) (add_commit (fast_commit m₀ f₀ k₀ x₀) h)
  fast_reading =
      record {
        class_over = R.class_over;
        owned = R.owned;
        right = λ r m o. right_more (fast_commit m₀ f₀ k₀ x₀) h.commits r.id r.key r.answer (λ x e l. let q : r.key ≡ k₀ = grind (arith, nat_tests) in let a = late r m q in absurd (omega arith)) (R.right r m o);
        blocked = λ r j c m o e l y b. between_more (fast_commit m₀ f₀ k₀ x₀) h.commits c r.id r.key (R.blocked r j c m o e l y b);
      }

-- a read is told
module _ {V : Type 0} (s : State V) (h : Summary V) (R : Reading s h) (r₀ : AnsweredRead V) (greater_of : r₀.id ≤ class_number s.classes r₀.key) (own : (x : V) → r₀.own ≡ Some x → r₀.answer ≡ Some x)
    (good : r₀.own ≡ None → Right h.commits r₀.id r₀.key r₀.answer)
    (blocks : (j c : ℕ) → r₀.own ≡ None → validated_number (look_up s.rows j) ≡ Some c → Live s.fence s.entries j → has_key (look_up s.rows j) r₀.key ≡ true → c < r₀.id → Between h.commits c r₀.id r₀.key) where
  pub read_reading : Reading (s) (add_read r₀ h)
  read_reading =
      record {
        class_over = in_cons (λ r. r.id ≤ class_number s.classes r.key) r₀ h.reads greater_of R.class_over;
        owned = λ r x m o. in_cons (λ r. r.own ≡ Some x → r.answer ≡ Some x) r₀ h.reads (λ o. own x o) (λ r m o. R.owned r x m o) r m o;
        right = in_cons (λ r. r.own ≡ None → Right h.commits r.id r.key r.answer) r₀ h.reads good R.right;
        blocked = λ r j c m o e l y b. in_cons (λ r. r.own ≡ None → has_key (look_up s.rows j) r.key ≡ true → c < r.id → Between h.commits c r.id r.key) r₀ h.reads (λ o y b. blocks j c o e l y b) (λ r m o y b. R.blocked r j c m o e l y b) r m o y b;
      }
