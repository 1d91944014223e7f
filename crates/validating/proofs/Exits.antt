-- What the reference step gives on each way through validate, up to the manager's part.
use Rattle.std.proofs.Common.{◌≡◌, ℕ, ◌/◌, ◌<◌, ◌≤◌, ltb, leb, List, Some, None, refl}
use Rattle.std.proofs.lemmas.Bool.{lt-ltb, le-ltb, eq-eqb, ne_eqb}
use Rattle.model.specs.declared.words.Phase.{Phase}
use Rattle.model.specs.declared.words.Phase.TheVariants.{Open, Validated, Settled}
use Rattle.model.specs.declared.refusal.Refusal.TheVariants.{OutsideLimits, SeatVacant, NoRow, WrongPhase, Fenced}
use Rattle.model.specs.declared.call.Call.TheVariants.{Validate}
use Rattle.model.specs.declared.call.Answer.{Answer}
use Rattle.model.specs.declared.call.Answer.TheVariants.{Denied}
use Rattle.model.specs.Numbers.{U}
use Rattle.model.specs.Maps.{look_up}
use Rattle.model.specs.Transactions.{transaction}
use Rattle.model.specs.Managers.{Seat, first_conflict, conflict_capacity}
use Rattle.model.specs.State.{State}
use Rattle.model.specs.Validating.{validate_at, validate_in, validate_if, validate_seat}
use Rattle.model.specs.Step.{step}

module _ {V : Type 0} (s : State V) (id q : ℕ) where
  -- the call where the conflict table has a place
  abbrev pub placed : State V × Answer V
  placed = validate_at id q s (ltb 1 q) (look_up s.rows id)

  -- a conflict table with no place, and one with some
  pub no_place : conflict_capacity q s.opening ≡ 0 → step s (Validate id q) ≡ (s, Denied OutsideLimits)
  unfolding step validate_at
  no_place e = rw (eq-eqb (conflict_capacity q s.opening) 0 e) refl

  pub some_place : (conflict_capacity q s.opening ≡ 0 → ⊥) → step s (Validate id q) ≡ placed
  unfolding step
  some_place e = rw (ne_eqb (conflict_capacity q s.opening) 0 e) refl

  pub validate_above : 1 < q → placed ≡ (s, Denied OutsideLimits)
  unfolding validate_at
  validate_above l = rw (lt-ltb 1 q l) refl

  module _ (b : q ≤ 1) where
    pub validate_no_row : look_up s.rows id ≡ None → placed ≡ (s, Denied (NoRow id))
    unfolding validate_at
    validate_no_row e = rw (le-ltb 1 q b, e) refl

    module _ (p : Phase) (ks : List ℕ) (n : ℕ) (e : look_up s.rows id ≡ Some (transaction p ks n)) where
      pub validate_phase : (p ≡ Open → ⊥) → placed ≡ (s, Denied (WrongPhase id))
      unfolding validate_at validate_in
      validate_phase h = rw (le-ltb 1 q b, e) (go p h)
        where
          go : (p : Phase) → (p ≡ Open → ⊥) → validate_in id q s p ks n ≡ (s, Denied (WrongPhase id))
          go Open h = absurd (h refl)
          go (Validated c) h = refl
          go (Settled c) h = refl

      module _ (h : p ≡ Open) where
        pub validate_fenced : id < s.fence → placed ≡ (s, Denied (Fenced id))
        unfolding validate_at validate_in validate_if
        validate_fenced l = rw (le-ltb 1 q b, e, h, lt-ltb id s.fence l) refl

        module _ (l : s.fence ≤ id) where
          pub validate_vacant : look_up s.seats q ≡ None → placed ≡ (s, Denied (SeatVacant q))
          unfolding validate_at validate_in validate_if
          validate_vacant t = rw (le-ltb 1 q b, e, h, le-ltb id s.fence l, t) refl

          pub validate_there : (t : Seat) → look_up s.seats q ≡ Some t → placed ≡ validate_seat id q ks n s t (leb t.clock (id / U)) (ltb id t.low) (first_conflict id t.conflicts ks)
          unfolding validate_at validate_in validate_if
          validate_there t f = rw (le-ltb 1 q b, e, h, le-ltb id s.fence l, f) refl
