-- A database that opens is within the limits, and fresh.
use Rattle.std.proofs.Common.{◌≡◌, ℕ, Bool, true, false, cond, ◌&&◌, eqb, Ok, Err, Result, refl, arith}
use Rattle.model.specs.declared.refusal.Refusal.{Refusal}
use Rattle.model.specs.declared.refusal.Refusal.TheVariants.{OutsideLimits}
use Rattle.model.specs.declared.call.Opening.{Opening}
use Rattle.model.specs.State.{State, fresh, within, opened}

module _ {V : Type 0} where
  pub opens : (z : Opening) (m n : ℕ) (s : State V) → opened z m n ≡ Ok s → (within z ≡ true) × (fresh z ≡ s)
  unfolding opened
  opens z m n s e = go (within z) (eqb m 0 && eqb n 0) e
    where
      go : (a b : Bool) → cond {A = Result (State V) Refusal} (a && b) (Ok (fresh z)) (Err OutsideLimits) ≡ Ok s → (a ≡ true) × (fresh z ≡ s)
      go true true e = (refl, cc)
      go true false e = absurd (grind arith)
      go false b e = absurd (grind arith)
