-- What the reference step gives on a sweep.
use Rattle.std.proofs.Common.{◌≡◌, ℕ, refl}
use Rattle.model.specs.declared.call.Call.TheVariants.{Sweep}
use Rattle.model.specs.Versions.{versions}
use Rattle.model.specs.State.{State}
use Rattle.model.specs.Sweeping.{sweep_down, swept}
use Rattle.model.specs.Step.{step}

pub sweep_is : {V : Type 0} (s : State V) (k : ℕ) → step s (Sweep k) ≡ swept k (sweep_down k (versions k s.records) s 0)
unfolding step
sweep_is s k = refl
