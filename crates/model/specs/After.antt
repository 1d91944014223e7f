-- Several calls, one after the other.
use Rattle.std.specs.Prelude.{List, [], ◌∷◌}
use Rattle.model.specs.declared.call.Call.{Call}
use Rattle.model.specs.State.{State}
use Rattle.model.specs.Step.{step}

module _ {V : Type 0} where
  -- the state to which some calls lead, the first call first
  abbrev pub after : State V → List (Call V) → State V
  after s [] = s
  after s (c ∷ cs) = after (step s c).0 cs
