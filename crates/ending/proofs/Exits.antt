-- What the reference step gives on each way through abandon and bury.
use Rattle.std.proofs.Common.{◌≡◌, ℕ, ◌<◌, ◌≤◌, true, List, length, drop, Some, None, refl}
use Rattle.std.proofs.lemmas.Bool.{lt-ltb, le-ltb}
use Rattle.model.specs.declared.words.Phase.{Phase}
use Rattle.model.specs.declared.words.Phase.TheVariants.{Open, Validated, Settled}
use Rattle.model.specs.declared.refusal.Refusal.TheVariants.{NoRow, WrongPhase, NotFenced}
use Rattle.model.specs.declared.call.Call.TheVariants.{Abandon, Bury}
use Rattle.model.specs.declared.call.Answer.TheVariants.{Denied, Number}
use Rattle.model.specs.Maps.{look_up}
use Rattle.model.specs.Transactions.{transaction}
use Rattle.model.specs.State.{State}
use Rattle.model.specs.Stamping.{stamp_records, row_gone}
use Rattle.model.specs.Ending.{abandoned, abandon_at, abandon_in, bury_at, bury_in}
use Rattle.model.specs.Step.{step}

module _ {V : Type 0} (s : State V) (id : ℕ) where
  pub abandon_no_row : look_up s.rows id ≡ None → step s (Abandon id) ≡ (s, Denied (NoRow id))
  unfolding step abandon_at
  abandon_no_row e = rw e refl

  pub bury_no_row : look_up s.rows id ≡ None → step s (Bury id) ≡ (s, Denied (NoRow id))
  unfolding step bury_at
  bury_no_row e = rw e refl

  module _ (p : Phase) (ks : List ℕ) (n : ℕ) (e : look_up s.rows id ≡ Some (transaction p ks n)) where
    pub abandon_settled : (c : ℕ) → p ≡ Settled c → step s (Abandon id) ≡ (s, Denied (WrongPhase id))
    unfolding step abandon_at abandon_in
    abandon_settled c h = rw (e, h) refl

    pub abandon_done : ((c : ℕ) → p ≡ Settled c → ⊥) → step s (Abandon id) ≡ abandoned id ks s
    unfolding step abandon_at abandon_in
    abandon_done h = rw e (go p h)
      where
        go : (p : Phase) → ((c : ℕ) → p ≡ Settled c → ⊥) → abandon_in id s p ks ≡ abandoned id ks s
        go Open h = refl
        go (Validated c) h = refl
        go (Settled c) h = absurd (h c refl)

    pub bury_above : s.fence ≤ id → step s (Bury id) ≡ (s, Denied (NotFenced id))
    unfolding step bury_at bury_in
    bury_above l = rw (e, le-ltb id s.fence l) refl

    module _ (l : id < s.fence) where
      -- what is not settled is abandoned
      pub bury_unsettled : ((c : ℕ) → p ≡ Settled c → ⊥) → step s (Bury id) ≡ step s (Abandon id)
      unfolding step bury_at bury_in abandon_at abandon_in
      bury_unsettled h = rw (e, lt-ltb id s.fence l) (go p h)
        where
          go : (p : Phase) → ((c : ℕ) → p ≡ Settled c → ⊥) → bury_in id s p ks n true ≡ abandon_in id s p ks
          go Open h = refl
          go (Validated c) h = refl
          go (Settled c) h = absurd (h c refl)

      pub bury_settled : (c : ℕ) → p ≡ Settled c → step s (Bury id) ≡ (row_gone id (stamp_records id c (drop n ks) s), Number (length (drop n ks)))
      unfolding step bury_at bury_in
      bury_settled c h = rw (e, h, lt-ltb id s.fence l) refl
