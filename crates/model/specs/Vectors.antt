-- Runs with answers from outside: made by another model of the database, and computed on this one.
use Rattle.std.specs.Prelude.{◌≡◌, ℕ, List, [], ◌∷◌}
use Rattle.model.specs.declared.call.Opening.{Opening}
use Rattle.model.specs.declared.call.Call.{Call}
use Rattle.model.specs.declared.call.Answer.{Answer}
use Rattle.model.specs.State.{fresh}
use Rattle.model.specs.Runs.{replayed}
use Rattle.model.specs.VectorsShort.{last_steps, many_keys}
use Rattle.model.specs.VectorsTight.{tight}

-- the calls of a run, and their answers
abbrev pub calls_in : List (Call ℕ × Answer ℕ) → List (Call ℕ)
calls_in [] = []
calls_in (e ∷ l) = e.0 ∷ calls_in l

abbrev pub answers_in : List (Call ℕ × Answer ℕ) → List (Answer ℕ)
answers_in [] = []
answers_in (e ∷ l) = e.1 ∷ answers_in l

abbrev pub last_steps_opening : Opening
last_steps_opening = record { first = 8796093022202; span = 4; rows = 64; conflicts0 = 64; conflicts1 = 64; records = 256; entries = 64 }

abbrev pub many_keys_opening : Opening
many_keys_opening = record { first = 1; span = 4; rows = 64; conflicts0 = 64; conflicts1 = 64; records = 256; entries = 64 }

abbrev pub tight_opening : Opening
tight_opening = record { first = 1; span = 2; rows = 3; conflicts0 = 2; conflicts1 = 2; records = 8; entries = 2 }

-- the database that was opened so gives the answers of the run
abbrev pub Agrees : Opening → List (Call ℕ × Answer ℕ) → Type 0
Agrees z l = (replayed (fresh z) (calls_in l)).0 ≡ answers_in l

pub record Vectors : Type 0 where
  pub at_last_steps : Agrees last_steps_opening last_steps
  pub with_many_keys : Agrees many_keys_opening many_keys
  pub without_room : Agrees tight_opening tight
