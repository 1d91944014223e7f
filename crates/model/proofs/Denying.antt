-- A denied call.
use Rattle.std.proofs.Common.{◌≡◌, ℕ, Bool, true, false, cond, ltb, ◌⊎◌, List, [], ◌∷◌, ◌++◌, Some, None, Option, sym, refl, ap, ◌∙◌, inl, inr, arith}
use Rattle.model.specs.declared.words.Record.{Record}
use Rattle.model.specs.declared.words.CommitEntry.{CommitEntry}
use Rattle.model.specs.declared.words.CommitEntry.TheVariants.{Committed, Aborted}
use Rattle.model.specs.declared.words.Phase.{Phase}
use Rattle.model.specs.declared.words.Phase.TheVariants.{Open, Validated, Settled}
use Rattle.model.specs.declared.refusal.Refusal.{Refusal}
use Rattle.model.specs.declared.refusal.Refusal.TheVariants.{EntriesFull}
use Rattle.model.specs.declared.call.Call.{Call}
use Rattle.model.specs.declared.call.Call.TheVariants.{Takeover, Begin, Write, Read, Validate, Settle, Stamp, Abandon, Bury, Raise, Sweep, FastRead, FastChange, FastWrite}
use Rattle.model.specs.declared.call.Answer.{Answer}
use Rattle.model.specs.declared.call.Answer.TheVariants.{Denied}
use Rattle.model.specs.Maps.{look_up, enter}
use Rattle.model.specs.Records.{record_at}
use Rattle.model.specs.Versions.{versions_down}
use Rattle.model.specs.Transactions.{Transaction}
use Rattle.model.specs.State.{State, with_entries}
use Rattle.model.specs.Stamping.{entry_refused, stamp_record}
use Rattle.model.specs.Reading.{found, judge_open, judge_rec, judge, walk, read_if, read_in, read_at}
use Rattle.model.specs.Step.{step}
use Rattle.model.specs.Denials.{work_at, worked, Stopped}
use Rattle.model.proofs.View.{View, v_denied, v_takeover, v_begin, v_write, v_own, v_read, v_validate, v_settle, v_settle_again, v_stamp_none, v_stamp_last, v_stamp_more, v_abandon, v_bury, v_bury_settled, v_raise, v_sweep, v_fast_read, v_fast_change, v_fast_write, step_view}

module _ {V : Type 0} where
  -- a walk down the versions vs of k from s was denied at one of them, and left t
  record Halted (k : ℕ) (vs : List ℕ) (s t : State V) (w : Refusal) : Type 0 where
    version : ℕ
    above : List ℕ
    below : List ℕ
    full : w ≡ EntriesFull version
    split : vs ≡ above ++ (version ∷ below)
    left : t ≡ worked k above s

  -- one version more, where the work leads to u
  extend : (k v : ℕ) (vs : List ℕ) (s u t : State V) (w : Refusal) → work_at k v s (record_at s.records k v) (look_up s.entries v) ≡ u → Halted k vs u t w → Halted k (v ∷ vs) s t w
  extend k v vs s u t w e H = record {
    version = H.version;
    above = v ∷ H.above;
    below = H.below;
    full = H.full;
    split = ap (λ l. v ∷ l) H.split;
    left = H.left ∙ unfold worked in ap (worked k H.above) (sym e);
  }

  halted : (id k : ℕ) (vs : List ℕ) (s : State V) (w : Refusal) → (walk id k vs s).1 ≡ Denied w → Halted k vs s (walk id k vs s).0 w
  unfolding walk
  halted id k [] s w d = absurd (grind arith)
  halted id k (v ∷ vs) s w d = judged (λ t d. halted id k vs t w d) (record_at s.records k v) (look_up s.entries v) refl refl d
    where
      at : (o : Option (Record V)) (e : Option CommitEntry) → record_at s.records k v ≡ o → look_up s.entries v ≡ e → work_at k v s (record_at s.records k v) (look_up s.entries v) ≡ work_at k v s o e
      at o e p q = ap (λ o. work_at k v s o (look_up s.entries v)) p ∙ ap (work_at k v s o) q

      number : ((t : State V) → (walk id k vs t).1 ≡ Denied w → Halted k vs t (walk id k vs t).0 w) → (u : State V) (x : V) (b : Bool) → work_at k v s (record_at s.records k v) (look_up s.entries v) ≡ u
          → (cond b (found id k u (Some x)) (walk id k vs u)).1 ≡ Denied w → Halted k (v ∷ vs) s (cond b (found id k u (Some x)) (walk id k vs u)).0 w
      number on u x true i d = absurd (grind arith)
      number on u x false i d = extend k v vs s u _ w i (on u d)

      bare : ((t : State V) → (walk id k vs t).1 ≡ Denied w → Halted k vs t (walk id k vs t).0 w) → (a b : Bool) → work_at k v s (record_at s.records k v) (look_up s.entries v) ≡ cond a s (with_entries (enter v Aborted s.entries) s)
          → (judge_open v s a b (walk id k vs)).1 ≡ Denied w → Halted k (v ∷ vs) s (judge_open v s a b (walk id k vs)).0 w
      bare on true b i d = extend k v vs s s _ w i (on s d)
      bare on false true i d = record { version = v; above = []; below = vs; full = cc; split = refl; left = unfold worked in refl }
      bare on false false i d = extend k v vs s (with_entries (enter v Aborted s.entries) s) _ w i (on (with_entries (enter v Aborted s.entries) s) d)

      inner : ((t : State V) → (walk id k vs t).1 ≡ Denied w → Halted k vs t (walk id k vs t).0 w) → (r : Record V) (n : Option ℕ) (e : Option CommitEntry)
          → work_at k v s (record_at s.records k v) (look_up s.entries v) ≡ work_at k v s (Some (record { key = r.key; version = r.version; number = n; value = r.value })) e
          → (judge_rec id k v s n r.value e (walk id k vs)).1 ≡ Denied w → Halted k (v ∷ vs) s (judge_rec id k v s n r.value e (walk id k vs)).0 w
      inner on r (Some n) e i d = number on s r.value (ltb n id) i d
      inner on r None None i d = bare on (ltb v s.fence) (entry_refused s) i d
      inner on r None (Some Aborted) i d = extend k v vs s s _ w i (on s d)
      inner on r None (Some (Committed n)) i d = number on (stamp_record k v n s) r.value (ltb n id) i d

      judged : ((t : State V) → (walk id k vs t).1 ≡ Denied w → Halted k vs t (walk id k vs t).0 w) → (o : Option (Record V)) (e : Option CommitEntry) → record_at s.records k v ≡ o → look_up s.entries v ≡ e
          → (judge id k v s o e (walk id k vs)).1 ≡ Denied w → Halted k (v ∷ vs) s (judge id k v s o e (walk id k vs)).0 w
      judged on None e p q d = extend k v vs s s _ w (at None e p q) (on s d)
      judged on (Some r) e p q d = inner on r r.number e (at (Some r) e p q) d

  read_denied : (id k : ℕ) (s : State V) (w : Refusal) (o : Option Transaction) → (read_at id k s o).1 ≡ Denied w → ((read_at id k s o).0 ≡ s) ⊎ Stopped s (read_at id k s o).0 (Read id k) w
  unfolding read_at
  read_denied id k s w None d = inl refl
  read_denied id k s w (Some r) d = inner r.phase d
    where
      tests : (a : Bool) (o : Option (Record V)) → (read_if id k s a o).1 ≡ Denied w → ((read_if id k s a o).0 ≡ s) ⊎ Stopped s (read_if id k s a o).0 (Read id k) w
      tests true o d = inl refl
      tests false (Some x) d = absurd (grind arith)
      tests false None d =
          let H = halted id k (versions_down s.records k id []) s w d in
          inr (record { id = id; key = k; version = H.version; above = H.above; below = H.below; is_read = refl; is_full = H.full; split = H.split; left = H.left })

      inner : (p : Phase) → (read_in id k s p).1 ≡ Denied w → ((read_in id k s p).0 ≡ s) ⊎ Stopped s (read_in id k s p).0 (Read id k) w
      inner Open d = tests (ltb id s.floor) (record_at s.records k id) d
      inner (Validated c) d = inl refl
      inner (Settled c) d = inl refl

  -- every other call
  abbrev NotRead : Call V → Type 0
  NotRead c = (id k : ℕ) → c ≡ Read id k → ⊥

  unchanged : (s t : State V) (c : Call V) (a : Answer V) (w : Refusal) → View s c t a → NotRead c → a ≡ Denied w → t ≡ s
  unchanged s _ c _ w (v_denied x) f e = refl
  unchanged s _ _ _ w (v_takeover q p) f e = absurd (grind arith)
  unchanged s _ _ _ w (v_begin q t n u at z) f e = absurd (grind arith)
  unchanged s _ _ _ w (v_write id k x ks n at fe tp) f e = absurd (grind arith)
  unchanged s _ _ _ w (v_own id k ks n x at fl p) f e = absurd (f id k refl)
  unchanged s t _ a w (v_read id k ks n at fl p x) f e = absurd (f id k refl)
  unchanged s _ _ _ w (v_validate id q ks n t m u at fe sq lt lo cf z) f e = absurd (grind arith)
  unchanged s _ _ _ w (v_settle id n ks m at fe na) f e = absurd (grind arith)
  unchanged s _ _ _ w (v_settle_again id n ks m l at p) f e = absurd (grind arith)
  unchanged s _ _ _ w (v_stamp_none id n ks m at p) f e = absurd (grind arith)
  unchanged s _ _ _ w (v_stamp_last id n ks m k at p) f e = absurd (grind arith)
  unchanged s _ _ _ w (v_stamp_more id n ks m k l ls at p) f e = absurd (grind arith)
  unchanged s _ _ _ w (v_abandon id p ks n m at un) f e = absurd (grind arith)
  unchanged s _ _ _ w (v_bury id p ks n m at un) f e = absurd (grind arith)
  unchanged s _ _ _ w (v_bury_settled id n ks m l at) f e = absurd (grind arith)
  unchanged s _ _ _ w (v_raise h l) f e = absurd (grind arith)
  unchanged s _ _ _ w (v_sweep k m t u b d) f e = absurd (grind arith)
  unchanged s _ _ _ w (v_fast_read k n o) f e = absurd (grind arith)
  unchanged s _ _ _ w (v_fast_change n k x F) f e = absurd (grind arith)
  unchanged s _ _ _ w (v_fast_write k x F) f e = absurd (grind arith)

  pub denials : (s : State V) (c : Call V) (w : Refusal) → (step s c).1 ≡ Denied w → ((step s c).0 ≡ s) ⊎ Stopped s (step s c).0 c w
  denials s (Read id k) w d = unfold step in read_denied id k s w (look_up s.rows id) d
  denials s (Takeover q) w d = inl (unchanged s _ (Takeover q) _ w (step_view s (Takeover q)) (λ id k e. grind arith) d)
  denials s (Begin q) w d = inl (unchanged s _ (Begin q) _ w (step_view s (Begin q)) (λ id k e. grind arith) d)
  denials s (Write i q x) w d = inl (unchanged s _ (Write i q x) _ w (step_view s (Write i q x)) (λ id k e. grind arith) d)
  denials s (Validate i q) w d = inl (unchanged s _ (Validate i q) _ w (step_view s (Validate i q)) (λ id k e. grind arith) d)
  denials s (Settle i) w d = inl (unchanged s _ (Settle i) _ w (step_view s (Settle i)) (λ id k e. grind arith) d)
  denials s (Stamp i) w d = inl (unchanged s _ (Stamp i) _ w (step_view s (Stamp i)) (λ id k e. grind arith) d)
  denials s (Abandon i) w d = inl (unchanged s _ (Abandon i) _ w (step_view s (Abandon i)) (λ id k e. grind arith) d)
  denials s (Bury i) w d = inl (unchanged s _ (Bury i) _ w (step_view s (Bury i)) (λ id k e. grind arith) d)
  denials s (Raise h) w d = inl (unchanged s _ (Raise h) _ w (step_view s (Raise h)) (λ id k e. grind arith) d)
  denials s (Sweep q) w d = inl (unchanged s _ (Sweep q) _ w (step_view s (Sweep q)) (λ id k e. grind arith) d)
  denials s (FastRead q) w d = inl (unchanged s _ (FastRead q) _ w (step_view s (FastRead q)) (λ id k e. grind arith) d)
  denials s (FastChange n q x) w d = inl (unchanged s _ (FastChange n q x) _ w (step_view s (FastChange n q x)) (λ id k e. grind arith) d)
  denials s (FastWrite q x) w d = inl (unchanged s _ (FastWrite q x) _ w (step_view s (FastWrite q x)) (λ id k e. grind arith) d)
