-- Placing an entry in a commit table: only where none stands, and only where there is room.
use Rattle.std.specs.Prelude.{ℕ, cond, List, length, Some, None, Ok, Err, Option, Result, nat_lt}
use Rattle.model.specs.declared.words.CommitEntry.{CommitEntry}
use Rattle.model.specs.Maps.{look_up, enter}
use Rattle.commit_table.specs.declared.NotPlaced.{NotPlaced}
use Rattle.commit_table.specs.declared.NotPlaced.TheVariants.{Stands, Full}

-- an answer, and the entries that are left
pub record PlacingOutcome : Type 0 where
  pub answer : Result (Unit {0}) NotPlaced
  pub left : List (ℕ × CommitEntry)

abbrev pub placing : Result (Unit {0}) NotPlaced → List (ℕ × CommitEntry) → PlacingOutcome
placing a l = record { answer = a; left = l }

-- placing e at id among the entries l, with room for n, given what stands at id
abbrev pub place_at : ℕ → ℕ → CommitEntry → List (ℕ × CommitEntry) → Option CommitEntry → PlacingOutcome
place_at n id e l (Some o) = placing (Err (Stands o)) l
place_at n id e l None = cond (nat_lt (length l) n) (placing (Ok tt) (enter id e l)) (placing (Err Full) l)

abbrev pub place_in : ℕ → ℕ → CommitEntry → List (ℕ × CommitEntry) → PlacingOutcome
place_in n id e l = place_at n id e l (look_up l id)
