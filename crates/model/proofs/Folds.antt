-- What each small step keeps, a whole read, sweep or stamping keeps.
use Rattle.std.proofs.Common.{◌≡◌, ℕ, ◌<◌, List, [], ◌∷◌, Some, None}
use Rattle.model.specs.declared.call.Answer.{Answer}
use Rattle.model.specs.Maps.{look_up}
use Rattle.model.specs.Records.{record_at, drop_record}
use Rattle.model.specs.State.{State, with_records, raise_class_of}
use Rattle.model.specs.Stamping.{stamp_record, stamp_records}
use Rattle.model.proofs.Parts.{pending_value, record_number, committed_number}
use Rattle.model.proofs.VersionLists.{Holder}
use Rattle.model.proofs.View.{Touch, Walk, w_end, w_full, w_none, w_late, w_dead, w_fenced, w_found, w_touch, Sweeps, b_end, b_touch, b_drop, b_low}

module _ {V : Type 0} (P : State V → Type 0) where
  -- a read of k by id: it touches records, and in the end raises the class number to at least id
  pub walk_keeps : (id k : ℕ) → ((v : ℕ) (s t : State V) → Touch k v s t → P s → P t) → ((s : State V) → P s → P (raise_class_of k id s))
      → (vs : List ℕ) (s t : State V) (a : Answer V) → Walk id k vs s t a → P s → P t
  walk_keeps id k f g _ s _ _ w_end p = g s p
  walk_keeps id k f g _ s _ _ (w_full b) p = p
  walk_keeps id k f g _ s t a (w_none {vs = vs} e w) p = walk_keeps id k f g vs s t a w p
  walk_keeps id k f g _ s t a (w_late {vs = vs} n e l w) p = walk_keeps id k f g vs s t a w p
  walk_keeps id k f g _ s t a (w_dead {vs = vs} x e d w) p = walk_keeps id k f g vs s t a w p
  walk_keeps id k f g _ s t a (w_fenced {vs = vs} x e b l w) p = walk_keeps id k f g vs s t a w p
  walk_keeps id k f g _ s _ _ (w_found n x e d l) p = g s p
  walk_keeps id k f g vs s t a (w_touch {v = v} {u = u} m w) p = walk_keeps id k f g vs u t a w (f v s u m p)

  -- a sweep of k: it touches records, drops pending ones below the floor, and stamped ones under a greater number below the floor
  pub sweeps_keep : (k : ℕ) → ((v : ℕ) (s t : State V) → Touch k v s t → P s → P t)
      → ((v : ℕ) (x : V) (s : State V) → pending_value (record_at s.records k v) ≡ Some x → committed_number (look_up s.entries v) ≡ None → v < s.floor → P s → P (with_records (drop_record k v s.records) s))
      → ((v n m : ℕ) (s : State V) → record_number (record_at s.records k v) ≡ Some n → n < m → Holder s.records s.floor k m → P s → P (with_records (drop_record k v s.records) s))
      → (s t : State V) → Sweeps k s t → P s → P t
  sweeps_keep k f g h s _ b_end p = p
  sweeps_keep k f g h s t (b_touch {u = u} v m b) p = sweeps_keep k f g h u t b (f v s u m p)
  sweeps_keep k f g h s t (b_drop v x e d l b) p = sweeps_keep k f g h (with_records (drop_record k v s.records) s) t b (g v x s e d l p)
  sweeps_keep k f g h s t (b_low v n m e l H b) p = sweeps_keep k f g h (with_records (drop_record k v s.records) s) t b (h v n m s e l H p)

  -- the records of the version v are stamped
  pub stamps_keep : (v n : ℕ) → ((k : ℕ) (s : State V) → P s → P (stamp_record k v n s)) → (ks : List ℕ) (s : State V) → P s → P (stamp_records v n ks s)
  unfolding stamp_records
  stamps_keep v n f [] s p = p
  stamps_keep v n f (k ∷ ks) s p = stamps_keep v n f ks (stamp_record k v n s) (f k s p)
