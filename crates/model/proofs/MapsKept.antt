-- Rows and commit entries stay in ascending order, whatever the call.
use Rattle.std.proofs.Common.{ℕ, List, [], ◌∷◌, drop}
use Rattle.model.specs.declared.words.CommitEntry.TheVariants.{Aborted}
use Rattle.model.specs.declared.call.Call.{Call}
use Rattle.model.specs.declared.call.Answer.{Answer}
use Rattle.model.specs.Maps.{Rising}
use Rattle.model.specs.Versions.{versions_down}
use Rattle.model.specs.State.{State}
use Rattle.model.specs.Stamping.{stamp_records}
use Rattle.model.specs.Step.{step}
use Rattle.model.specs.After.{after}
use Rattle.model.proofs.Maps.{enter_rises, remove_rises}
use Rattle.model.proofs.Folds.{walk_keeps, sweeps_keep, stamps_keep}
use Rattle.model.proofs.View.{Touch, t_abort, t_mark, Sweeps, View, v_denied, v_takeover, v_begin, v_write, v_own, v_read, v_validate, v_settle, v_settle_again, v_stamp_none, v_stamp_last, v_stamp_more, v_abandon, v_bury, v_bury_settled, v_raise, v_sweep, v_fast_read, v_fast_change, v_fast_write, step_view}

module _ {V : Type 0} where
  abbrev pub OrderedMaps : State V → Type 0
  OrderedMaps s = Rising s.rows × Rising s.entries

  touch_maps : (k v : ℕ) (s t : State V) → Touch k v s t → OrderedMaps s → OrderedMaps t
  touch_maps k v s _ (t_abort x p e) O = (O.0, enter_rises v Aborted s.entries O.1)
  touch_maps k v s _ (t_mark n e) O = O

  sweeps_maps : (k : ℕ) (s t : State V) → Sweeps k s t → OrderedMaps s → OrderedMaps t
  sweeps_maps k s t b O = sweeps_keep OrderedMaps k (touch_maps k) (λ v x u p e l P. P) (λ v n m u p l H P. P) s t b O

  view_maps : (s t : State V) (c : Call V) (a : Answer V) → View s c t a → OrderedMaps s → OrderedMaps t
  view_maps s _ c _ (v_denied x) O = O
  view_maps s _ _ _ (v_takeover q p) O = O
  view_maps s _ _ _ (v_begin q t n u at z) O = (enter_rises _ _ s.rows O.0, O.1)
  view_maps s _ _ _ (v_write id k x ks n at fe tp) O = (enter_rises _ _ s.rows O.0, O.1)
  view_maps s _ _ _ (v_own id k ks n x at fl p) O = O
  view_maps s t _ a (v_read id k ks n at fl p x) O = walk_keeps OrderedMaps id k (touch_maps k) (λ u P. P) (versions_down s.records k id []) s t a x O
  view_maps s _ _ _ (v_validate id q ks n t m u at fe sq lt lo cf z) O = (enter_rises _ _ s.rows O.0, O.1)
  view_maps s _ _ _ (v_settle id n ks m at fe na) O = (enter_rises _ _ s.rows O.0, enter_rises _ _ s.entries O.1)
  view_maps s _ _ _ (v_settle_again id n ks m l at p) O = (enter_rises _ _ s.rows O.0, O.1)
  view_maps s _ _ _ (v_stamp_none id n ks m at p) O = (remove_rises id s.rows O.0, remove_rises id s.entries O.1)
  view_maps s _ _ _ (v_stamp_last id n ks m k at p) O = (remove_rises id s.rows O.0, remove_rises id s.entries O.1)
  view_maps s _ _ _ (v_stamp_more id n ks m k l ls at p) O = (enter_rises _ _ s.rows O.0, O.1)
  view_maps s _ _ _ (v_abandon id p ks n m at un) O = (remove_rises id s.rows O.0, remove_rises id s.entries O.1)
  view_maps s _ _ _ (v_bury id p ks n m at un) O = (remove_rises id s.rows O.0, remove_rises id s.entries O.1)
  view_maps s _ _ _ (v_bury_settled id n ks m l at) O =
      let t = stamp_records id n (drop m ks) s in
      let P = stamps_keep OrderedMaps id n (λ k u Q. Q) (drop m ks) s O in
      (remove_rises id t.rows P.0, remove_rises id t.entries P.1)
  view_maps s _ _ _ (v_raise h l) O = O
  view_maps s _ _ _ (v_sweep k m t u b d) O = sweeps_maps k t u d (sweeps_maps k s t b O)
  view_maps s _ _ _ (v_fast_read k n o) O = O
  view_maps s _ _ _ (v_fast_change n k x F) O = O
  view_maps s _ _ _ (v_fast_write k x F) O = O

  pub after_maps : (cs : List (Call V)) (s : State V) → OrderedMaps s → OrderedMaps (after s cs)
  after_maps [] s O = O
  after_maps (c ∷ cs) s O = after_maps cs (step s c).0 (view_maps s (step s c).0 c (step s c).1 (step_view s c) O)
