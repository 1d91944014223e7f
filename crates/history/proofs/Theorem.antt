-- The theorem: every past of the reference database obeys the law.
use Rattle.std.proofs.Common.{◌≡◌, ℕ, ◌*◌, ◌%◌, ◌<◌, ◌≤◌, true, List, [], ◌∷◌, Some, None, Ok, Option, sym, refl, ap, ◌∙◌, subst, inl, ⊎_elim, arith}
use Rattle.std.proofs.lemmas.Bool.Decides.{nat_tests}
use Rattle.model.specs.declared.call.Opening.{Opening}
use Rattle.model.specs.Numbers.{U, last_step}
use Rattle.model.specs.Maps.{look_up}
use Rattle.model.specs.Records.{record_at}
use Rattle.model.specs.Classes.{class_number}
use Rattle.model.specs.State.{State, fresh, within, opened}
use Rattle.model.specs.Step.{step}
use Rattle.history.specs.Past.{In, began, read_answered, effect, AnsweredRead, summary}
use Rattle.history.proofs.Summaries.{Commit, Summary, with_effect, empty_summary, summary_from, bare, plains, summary_is, ordered_plains}
use Rattle.history.proofs.Facts.{bound, Sound}
use Rattle.std.proofs.Math.ListN.{get_or-replicate}
use Rattle.model.specs.declared.call.Call.{Call}
use Rattle.model.specs.declared.call.Call.TheVariants.{Begin, Read}
use Rattle.model.specs.declared.call.Answer.{Answer}
use Rattle.model.specs.declared.call.Answer.TheVariants.{Number, Value}
use Rattle.history.specs.Past.{Summary as Bare}
use Rattle.history.specs.Keys.{below, holds, or_else}
use Rattle.model.specs.After.{after}
use Rattle.model.proofs.Opened.{opens}
use Rattle.history.specs.Law.{Ordered, past_of, Obeys}
use Rattle.model.proofs.View.{View, v_denied, v_begin, step_view}
use Rattle.history.proofs.TimeKept.{seat_bound}
use Rattle.history.proofs.Changes.{Z, unused_id}
use Rattle.history.proofs.Calls.{view_sound}
use Rattle.history.proofs.Holding.{right_holds, right_holds_all}

-- what the limits of opening say
limits : (z : Opening) → within z ≡ true → (0 < z.first) × (0 < z.span) × (z.first ≤ last_step)
unfolding within
limits z e = (grind (arith, nat_tests), grind (arith, nat_tests), grind (arith, nat_tests))

module _ {V : Type 0} where
  fresh_sound : (z : Opening) → within z ≡ true → Sound {V = V} (fresh z) empty_summary
  unfolding fresh look_up record_at class_number
  fresh_sound z e =
      let p = limits z e in
      record {
        time = record {
          floor_fence = omega arith;
          fence_bound = omega arith;
          cell_limit = p.2;
          span_there = p.1;
          charge_end = λ q f. absurd (grind arith);
          stale = λ q f. (omega arith, p.0);
          shape = λ q. (omega arith, omega arith, omega arith);
          apart = λ a b f. inl (omega arith);
          conflicts = λ q k. omega arith;
          begun = λ i m. absurd m;
          unused = λ q i m b. absurd m;
          rows_begun = λ i f. absurd (grind arith);
          writes_begun = λ i k x f. absurd (grind arith);
          numbers = λ i c f. absurd (grind arith);
          commits = λ d m. absurd m;
          by_settle = λ d m f. absurd m;
          by_fast_call = λ d m f. absurd m;
          classes = λ k. rw (get_or-replicate {A = ℕ} 64 (k % 64) 0 0 (omega arith)) (omega arith);
          sixty_four = refl;
          readers = λ r m. absurd m;
        };
        tables = record {
          pending = λ k v x f. absurd (grind arith);
          stamp_class = λ k v n f. absurd (grind arith);
          stamp_commit = λ k v n x f g. absurd (grind arith);
          sealing = λ i. refl;
          aborted_row = λ i f. absurd (grind arith);
          settled = λ i n f. absurd (grind arith);
          keyed = λ i k f. absurd (grind arith);
          unstamped = λ i f. refl;
          held = λ i k f g m. absurd (grind arith);
          uncommitted = λ i d f g m v. m;
          one_number = λ k v m n f g. absurd (grind arith);
          kept = λ d k x m f. absurd m;
          sorted = tt;
        };
        order = record {
          ordered = tt;
          val_commit = λ i c k d x f l y m w. absurd m;
          val_val = λ i j c g k ne f f' l l' y y'. absurd (grind arith);
          open_fast = λ i k d x f l y m g w. absurd m;
          recalls_commit = λ q k d x f m g w. absurd m;
          recalls_row = λ q k i c f g y. absurd (grind arith);
        };
        reading = record {
          class_over = λ r m. absurd m;
          owned = λ r x m f. absurd m;
          right = λ r m f. absurd m;
          blocked = λ r j c m f g l y b. absurd m;
        };
      }

  -- calls from a sound state lead to a sound state
  pub after_sound : (cs : List (Call V)) (s : State V) (h : Summary V) → Sound s h → Sound (after s cs) (summary_from h (past_of s cs))
  after_sound [] s h S = S
  after_sound (c ∷ cs) s h S = after_sound cs (step s c).0 (with_effect (effect c (step s c).1) h) (view_sound s (step s c).0 h c (step s c).1 (step_view s c) S)

  -- reads
  abbrev RightReads : Bare V → Type 0
  RightReads b = (r : AnsweredRead V) → In r b.reads → r.answer ≡ or_else r.own (holds (below r.id b.commits) r.key)

  right_reads : (s : State V) (h : Summary V) → Sound s h → RightReads (bare h)
  right_reads s h S r m = go r.own refl
    where
      go : (o : Option V) → r.own ≡ o → r.answer ≡ or_else o (holds (below r.id (plains h.commits)) r.key)
      go None e = sym (right_holds h.commits r.id r.key r.answer S.order.ordered (S.reading.right r m e))
      go (Some x) e = S.reading.owned r x m e

  -- a new transaction at the seat in charge: nothing of its own, and every commit below it
  pub record NewReader (h : Summary V) (id : ℕ) : Type 0 where
    pub no_write : (k : ℕ) → h.writes id k ≡ None
    pub all_below : (d : Commit V) → In d h.commits → d.number < id

  pub new_reader : (q : ℕ) (s t : State V) (h : Summary V) (a : Answer V) → View s (Begin q) t a → Sound s h → s.in_charge ≡ Some q → (id : ℕ) → a ≡ Number id → NewReader h id
  new_reader q s _ h _ (v_denied w) S c id e = absurd (grind arith)
  new_reader q s _ h _ (v_begin _ t e u at z) S c id f =
      let i : t.clock * U ≡ id = cc in
      let b : bound s ≡ t.clock * U = ⊎_elim (λ p. p.1) (λ p. absurd (p.0 c)) (seat_bound s q t e u u at (Z s h S q t e u at z) refl) in
      record {
        no_write = λ k. rw (← i) ((unused_id s h S q t e u at z).no_write k);
        all_below = λ d m. let l = (S.time.commits d m).0 in omega arith;
      }

  newest : (s : State V) (h : Summary V) → Sound s h → (q id k : ℕ) (o : Option V) → s.in_charge ≡ Some q → (step s (Begin q)).1 ≡ Number id → (step (step s (Begin q)).0 (Read id k)).1 ≡ Value o
      → o ≡ holds (bare h).commits k
  newest s h S q id k o c e f =
      let t = (step s (Begin q)).0 in
      let N = new_reader q s t h (step s (Begin q)).1 (step_view s (Begin q)) S c id e in
      let P : Sound t (with_effect (effect (Begin q) (step s (Begin q)).1) h) = view_sound s t h (Begin q) (step s (Begin q)).1 (step_view s (Begin q)) S in
      let P₁ : Sound t (with_effect (began id) h) = subst (λ a. Sound t (with_effect (effect (Begin q) a) h)) e P in
      let h₁ = with_effect (began id) h in
      let Q : Sound (step t (Read id k)).0 (with_effect (effect (Read id k) (step t (Read id k)).1) h₁) = view_sound t (step t (Read id k)).0 h₁ (Read id k) (step t (Read id k)).1 (step_view t (Read id k)) P₁ in
      let Q₁ : Sound (step t (Read id k)).0 (with_effect (read_answered id k o) h₁) = subst (λ a. Sound (step t (Read id k)).0 (with_effect (effect (Read id k) a) h₁)) f Q in
      sym (right_holds_all h.commits id k o S.order.ordered N.all_below (Q₁.reading.right (record { id = id; key = k; own = h.writes id k; answer = o }) (inl refl) (N.no_write k)))

  -- a database that opens is sound, and so it stays
  pub opened_sound : (z : Opening) (m n : ℕ) (s : State V) → opened z m n ≡ Ok s → Sound s empty_summary
  opened_sound z m n s e = let p = opens z m n s e in subst (λ t. Sound t empty_summary) p.1 (fresh_sound z p.0)

  pub history : (z : Opening) (m n : ℕ) (s : State V) → opened z m n ≡ Ok s → (cs : List (Call V)) → Obeys s cs
  history z m n s e cs =
      let S = after_sound cs s empty_summary (opened_sound z m n s e) in
      let h = summary_from empty_summary (past_of s cs) in
      let i : bare h ≡ summary (past_of s cs) = sym (summary_is (past_of s cs) empty_summary) in
      record {
        law = record {
          snapshots = subst RightReads i (right_reads (after s cs) h S);
          order = subst (λ (b : Bare V). Ordered b.commits) i (ordered_plains h.commits S.order.ordered);
        };
        newest = λ q id k o c f g. newest (after s cs) h S q id k o c f g ∙ ap (λ (b : Bare V). holds b.commits k) i;
      }
