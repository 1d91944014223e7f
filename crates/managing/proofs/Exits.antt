-- What the reference step gives on each way through takeover, begin and raise.
use Rattle.std.proofs.Common.{◌≡◌, ℕ, ◌+◌, ◌*◌, ◌<◌, ◌≤◌, max, Bool, true, false, cond, ltb, [], length, Some, None, Ok, Err, Result, sym, refl, ap, ◌∙◌, arith}
use Rattle.std.proofs.lemmas.Bool.{lt-ltb, le-ltb, le-leb, lt-leb, ltb-false}
use Rattle.model.specs.declared.words.Phase.TheVariants.{Open}
use Rattle.model.specs.declared.refusal.Refusal.{Refusal}
use Rattle.model.specs.declared.refusal.Refusal.TheVariants.{OutsideLimits, SeatVacant, RowsFull, StepsSpent, AboveClock}
use Rattle.model.specs.declared.call.Call.TheVariants.{Takeover, Begin, Raise}
use Rattle.model.specs.declared.call.Answer.TheVariants.{Denied, Number}
use Rattle.model.specs.Numbers.{U, last_step}
use Rattle.model.specs.Maps.{look_up, enter}
use Rattle.model.specs.Transactions.{transaction}
use Rattle.model.specs.Managers.{Seat, step_denied, step_taken}
use Rattle.model.specs.State.{State, with_rows, with_seat, with_floor, taken_over}
use Rattle.model.specs.Managing.{charge_clock, step_at, takeover_if, begin_if, raise_if}
use Rattle.model.specs.Step.{step}
use Rattle.manager.specs.Meaning.{Numbers, Stepping, stepping, takeover_of, taken_by}

module _ {V : Type 0} (s : State V) where
  pub raise_denied : (h n : ℕ) → charge_clock s.in_charge s.seats ≡ n → n * U < h → step s (Raise h) ≡ (s, Denied (AboveClock h))
  unfolding step raise_if
  raise_denied h n e l = rw (e, lt-ltb (n * U) h l) refl

  pub raise_done : (h n : ℕ) → charge_clock s.in_charge s.seats ≡ n → h ≤ n * U → step s (Raise h) ≡ (with_floor h s, Number (max s.floor h))
  unfolding step raise_if
  raise_done h n e l = rw (e, le-ltb (n * U) h l) refl

  module _ (q : ℕ) where
    takeover_above : ltb 1 q ≡ true → step s (Takeover q) ≡ (s, Denied OutsideLimits)
    unfolding step takeover_if
    takeover_above e = rw e refl

    takeover_spent : ltb 1 q ≡ false → ltb last_step (s.cell + s.opening.span) ≡ true → step s (Takeover q) ≡ (s, Denied (StepsSpent q))
    unfolding step takeover_if
    takeover_spent e f = rw (e, f) refl

    takeover_done : ltb 1 q ≡ false → ltb last_step (s.cell + s.opening.span) ≡ false → step s (Takeover q) ≡ (taken_over q s, Number (s.cell * U))
    unfolding step takeover_if
    takeover_done e f = rw (e, f) refl

    pub begin_above : 1 < q → step s (Begin q) ≡ (s, Denied OutsideLimits)
    unfolding step begin_if
    begin_above l = rw (lt-ltb 1 q l) refl

    pub begin_vacant : q ≤ 1 → look_up s.seats q ≡ None → step s (Begin q) ≡ (s, Denied (SeatVacant q))
    unfolding step begin_if
    begin_vacant l e = rw (le-ltb 1 q l, e) refl

    module _ (t : Seat) (l : q ≤ 1) (e : look_up s.seats q ≡ Some t) where
      pub begin_full : s.opening.rows ≤ length s.rows → step s (Begin q) ≡ (s, Denied (RowsFull (length s.rows)))
      unfolding step begin_if
      begin_full m = rw (le-ltb 1 q l, e, le-leb s.opening.rows (length s.rows) m) refl

      pub begin_denied : (w : Refusal) → length s.rows < s.opening.rows → step_at q s t ≡ step_denied w → step s (Begin q) ≡ (s, Denied w)
      unfolding step begin_if
      begin_denied w m k = rw (le-ltb 1 q l, e, lt-leb s.opening.rows (length s.rows) m, k) refl

      pub begin_done : (u : Seat) (c : ℕ) → length s.rows < s.opening.rows → step_at q s t ≡ step_taken c u →
          step s (Begin q) ≡ (with_rows (enter (t.clock * U) (transaction Open [] 0) s.rows) (with_seat q u c s), Number (t.clock * U))
      unfolding step begin_if
      begin_done u c m k = rw (le-ltb 1 q l, e, lt-leb s.opening.rows (length s.rows) m, k) refl

-- a takeover was denied
pub record Refused {V : Type 0} (s : State V) (q : ℕ) (w : Refusal) (p p' : Numbers) : Type 0 where
  pub same : p' ≡ p
  pub exit : step s (Takeover q) ≡ (s, Denied w)

-- a takeover was accepted
pub record Taken {V : Type 0} (s : State V) (q : ℕ) (n : ℕ) (p p' : Numbers) : Type 0 where
  pub seat : q ≤ 1
  pub number : n ≡ p.cell * U
  pub is : p' ≡ taken_by q p
  pub exit : step s (Takeover q) ≡ (taken_over q s, Number (p.cell * U))

module _ {V : Type 0} (s : State V) (q : ℕ) (p p' : Numbers) (c : s.cell ≡ p.cell) (d : s.opening.span ≡ p.span) where
  abbrev ways : Bool → Bool → Stepping
  ways a b = cond a (stepping (Err OutsideLimits) p) (cond b (stepping (Err (StepsSpent q)) p) (stepping (Ok (p.cell * U)) (taken_by q p)))

  spent : ltb last_step (s.cell + s.opening.span) ≡ ltb last_step (p.cell + p.span)
  spent = rw (c, d) refl

  answered : {x y : Stepping} → x ≡ y → x.answer ≡ y.answer
  answered e = ap (λ (o : Stepping). o.answer) e

  pub takeover_err : (w : Refusal) → stepping (Err w) p' ≡ takeover_of q p → Refused s q w p p'
  takeover_err w h = go (ltb 1 q) (ltb last_step (p.cell + p.span)) refl refl h
    where
      go : (a b : Bool) → ltb 1 q ≡ a → ltb last_step (p.cell + p.span) ≡ b → stepping (Err w) p' ≡ ways a b → Refused s q w p p'
      go true b x y h =
          let z : ◌≡◌ {A = Result ℕ Refusal} (Err w) (Err OutsideLimits) = answered h in
          let v : w ≡ OutsideLimits = cc in
          record { same = ap (λ (o : Stepping). o.after) h; exit = takeover_above s q x ∙ ap (λ r. (s, Denied r)) (sym v) }
      go false true x y h =
          let z : ◌≡◌ {A = Result ℕ Refusal} (Err w) (Err (StepsSpent q)) = answered h in
          let v : w ≡ StepsSpent q = cc in
          record { same = ap (λ (o : Stepping). o.after) h; exit = takeover_spent s q x (spent ∙ y) ∙ ap (λ r. (s, Denied r)) (sym v) }
      go false false x y h = absurd (let z = answered h in let o : ◌≡◌ {A = ℕ} 0 1 = cc in omega arith)

  pub takeover_ok : (n : ℕ) → stepping (Ok n) p' ≡ takeover_of q p → Taken s q n p p'
  takeover_ok n h = go (ltb 1 q) (ltb last_step (p.cell + p.span)) refl refl h
    where
      go : (a b : Bool) → ltb 1 q ≡ a → ltb last_step (p.cell + p.span) ≡ b → stepping (Ok n) p' ≡ ways a b → Taken s q n p p'
      go true b x y h = absurd (let z = answered h in let o : ◌≡◌ {A = ℕ} 0 1 = cc in omega arith)
      go false true x y h = absurd (let z = answered h in let o : ◌≡◌ {A = ℕ} 0 1 = cc in omega arith)
      go false false x y h =
          let z : ◌≡◌ {A = Result ℕ Refusal} (Ok n) (Ok (p.cell * U)) = answered h in
          record { seat = ltb-false 1 q x; number = (cc); is = ap (λ (o : Stepping). o.after) h; exit = takeover_done s q x (spent ∙ y) ∙ ap (λ m. (taken_over q s, Number (m * U))) c }
