-- What never falls, and floor and fence.
use Rattle.std.specs.Prelude.{◌≡◌, ℕ, ◌≤◌, List, Ok}
use Rattle.model.specs.declared.call.Opening.{Opening}
use Rattle.model.specs.declared.call.Call.{Call}
use Rattle.model.specs.Classes.{class_number}
use Rattle.model.specs.State.{State, opened}
use Rattle.model.specs.Step.{step}
use Rattle.model.specs.After.{after}

module _ {V : Type 0} where
  -- from s to t the cell, the fence, the floor and the class number of every key did not fall
  abbrev pub Risen : State V → State V → Type 0
  Risen s t = (s.cell ≤ t.cell) × (s.fence ≤ t.fence) × (s.floor ≤ t.floor) × ((k : ℕ) → class_number s.classes k ≤ class_number t.classes k)

-- no call lets them fall
abbrev pub NeverFall : Type 0 → Type 0
NeverFall V = (s : State V) (c : Call V) → Risen s (step s c).0

-- from an opening on, the floor is at most the fence
abbrev pub FloorUnderFence : Type 0 → Type 0
FloorUnderFence V = (z : Opening) (m n : ℕ) (s : State V) → opened z m n ≡ Ok s → (cs : List (Call V)) → (after s cs).floor ≤ (after s cs).fence
