-- Cell, fence, floor and class numbers never fall, and the floor stays at most the fence.
use Rattle.std.proofs.Common.{◌≡◌, ℕ, ◌≤◌, List, [], ◌∷◌, drop, Ok, refl, ◌∙◌, subst, arith}
use Rattle.model.specs.declared.call.Opening.{Opening}
use Rattle.model.specs.declared.call.Call.{Call}
use Rattle.model.specs.declared.call.Answer.{Answer}
use Rattle.model.specs.Managers.{Seat}
use Rattle.model.specs.Versions.{versions_down}
use Rattle.model.specs.State.{State, fresh, opened, raise_class_of}
use Rattle.model.specs.Stamping.{stamp_record, stamp_records}
use Rattle.model.specs.Step.{step}
use Rattle.model.specs.After.{after}
use Rattle.model.specs.Bounds.{Risen}
use Rattle.model.proofs.VersionLists.{class_rises}
use Rattle.model.proofs.Opened.{opens}
use Rattle.model.proofs.Folds.{walk_keeps, sweeps_keep, stamps_keep}
use Rattle.model.proofs.View.{Touch, t_abort, t_mark, Walk, Sweeps, Stepped, s_within, s_extend, next_number, View, v_denied, v_takeover, v_begin, v_write, v_own, v_read, v_validate, v_settle, v_settle_again, v_stamp_none, v_stamp_last, v_stamp_more, v_abandon, v_bury, v_bury_settled, v_raise, v_sweep, v_fast_read, v_fast_change, v_fast_write, step_view}

module _ {V : Type 0} where
  -- nothing fell, and floor and fence stayed
  abbrev Level : State V → State V → Type 0
  Level s t = Risen s t × (t.floor ≡ s.floor) × (t.fence ≡ s.fence)

  level_self : (s : State V) → Level s s
  level_self s = ((omega arith, omega arith, omega arith, λ k. omega arith), refl, refl)

  level_both : (s t u : State V) → Level s t → Level t u → Level s u
  level_both s t u A B =
      let a = A.0 in
      let b = B.0 in
      ((omega (arith, a.0, b.0), omega (arith, a.1, b.1), omega (arith, a.2, b.2), λ k. let p = a.3 k in let q = b.3 k in omega arith), B.1 ∙ A.1, B.2 ∙ A.2)

  class_level : (k n : ℕ) (s : State V) → Level s (raise_class_of k n s)
  class_level k n s = ((omega arith, omega arith, omega arith, λ q. class_rises k n s.classes q), refl, refl)

  touch_level : (k v : ℕ) (s t : State V) → Touch k v s t → Level s t
  touch_level k v s _ (t_abort x p e) = level_self s
  touch_level k v s _ (t_mark n e) = class_level k n s

  walk_level : (id k : ℕ) (vs : List ℕ) (s t : State V) (a : Answer V) → Walk id k vs s t a → Level s t
  walk_level id k vs s t a w = walk_keeps (Level s) id k (λ v u x m L. level_both s u x L (touch_level k v u x m)) (λ u L. level_both s u (raise_class_of k id u) L (class_level k id u)) vs s t a w (level_self s)

  sweeps_level : (k : ℕ) (s t : State V) → Sweeps k s t → Level s t
  sweeps_level k s t b = sweeps_keep (Level s) k (λ v u x m L. level_both s u x L (touch_level k v u x m)) (λ v x u p e l L. L) (λ v n m u p l H L. L) s t b (level_self s)

  stamps_level : (v n : ℕ) (ks : List ℕ) (s : State V) → Level s (stamp_records v n ks s)
  stamps_level v n ks s = stamps_keep (Level s) v n (λ k u L. level_both s u (stamp_record k v n u) L (class_level k n u)) ks s (level_self s)

  stepped_cell : (s : State V) (t : Seat) (c : ℕ) (u : Seat) → Stepped s t c u → s.cell ≤ c
  stepped_cell s t _ _ (s_within p) = omega arith
  stepped_cell s t _ _ (s_extend p q r) = omega arith

  -- a call leaves floor and fence level, or it is a takeover or a raise
  record Moved (s t : State V) : Type 0 where
    risen : Risen s t
    under : s.floor ≤ s.fence → t.floor ≤ t.fence

  moved_level : (s t : State V) → Level s t → Moved s t
  moved_level s t L = record { risen = L.0; under = λ l. omega (arith, L.1, L.2) }

  moved : (s t : State V) (c : Call V) (a : Answer V) → View s c t a → Moved s t
  moved s _ c _ (v_denied x) = moved_level s s (level_self s)
  moved s _ _ _ (v_takeover q p) = record { risen = (omega arith, omega arith, omega arith, λ k. omega arith); under = λ l. omega arith }
  moved s _ _ _ (v_begin q t n u at z) = record { risen = (stepped_cell s t n u z, omega arith, omega arith, λ k. omega arith); under = λ l. l }
  moved s _ _ _ (v_write id k x ks n at fe tp) = moved_level s _ (level_self s)
  moved s _ _ _ (v_own id k ks n x at fl p) = moved_level s _ (class_level k id s)
  moved s t _ a (v_read id k ks n at fl p x) = moved_level s t (walk_level id k (versions_down s.records k id []) s t a x)
  moved s _ _ _ (v_validate id q ks n t m u at fe sq lt lo cf z) = record { risen = (stepped_cell s t m u z, omega arith, omega arith, λ k. omega arith); under = λ l. l }
  moved s _ _ _ (v_settle id n ks m at fe na) = moved_level s _ (level_self s)
  moved s _ _ _ (v_settle_again id n ks m l at p) = moved_level s _ (level_self s)
  moved s _ _ _ (v_stamp_none id n ks m at p) = moved_level s _ (level_self s)
  moved s _ _ _ (v_stamp_last id n ks m k at p) = moved_level s _ (class_level k n s)
  moved s _ _ _ (v_stamp_more id n ks m k l ls at p) = moved_level s _ (class_level k n s)
  moved s _ _ _ (v_abandon id p ks n m at un) = moved_level s _ (level_self s)
  moved s _ _ _ (v_bury id p ks n m at un) = moved_level s _ (level_self s)
  moved s _ _ _ (v_bury_settled id n ks m l at) = moved_level s _ (stamps_level id n (drop m ks) s)
  moved s _ _ _ (v_raise h l) = record { risen = (omega arith, omega arith, omega arith, λ k. omega arith); under = λ l. omega arith }
  moved s _ _ _ (v_sweep k m t u b d) = moved_level s u (level_both s t u (sweeps_level k s t b) (sweeps_level k t u d))
  moved s _ _ _ (v_fast_read k n o) = moved_level s s (level_self s)
  moved s _ _ _ (v_fast_change n k x F) = moved_level s _ (class_level k (next_number k s) s)
  moved s _ _ _ (v_fast_write k x F) = moved_level s _ (class_level k (next_number k s) s)

  pub never_fall : (s : State V) (c : Call V) → Risen s (step s c).0
  never_fall s c = (moved s (step s c).0 c (step s c).1 (step_view s c)).risen

  under_after : (cs : List (Call V)) (s : State V) → s.floor ≤ s.fence → (after s cs).floor ≤ (after s cs).fence
  under_after [] s l = l
  under_after (c ∷ cs) s l = under_after cs (step s c).0 ((moved s (step s c).0 c (step s c).1 (step_view s c)).under l)

  pub floor_under_fence : (z : Opening) (m n : ℕ) (s : State V) → opened z m n ≡ Ok s → (cs : List (Call V)) → (after s cs).floor ≤ (after s cs).fence
  unfolding fresh
  floor_under_fence z m n s e cs = under_after cs s (subst (λ t. t.floor ≤ t.fence) (opens z m n s e).1 (omega arith))
