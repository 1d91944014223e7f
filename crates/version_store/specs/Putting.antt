-- Putting a record into a store with room for so many.
use Rattle.std.specs.Prelude.{ℕ, cond, ◌||◌, List, Ok, Err, Result, nat_lt}
use Rattle.model.specs.declared.words.Record.{Record}
use Rattle.model.specs.Maps.{is_there}
use Rattle.model.specs.Records.{count, record_at, put}
use Rattle.model.specs.declared.words.Full.{Full}

-- an answer, and the records that are left
pub record PuttingOutcome (V : Type 0) : Type 0 where
  pub answer : Result (Unit {0}) Full
  pub left : List (Record V)

module _ {V : Type 0} where
  abbrev pub putting : Result (Unit {0}) Full → List (Record V) → PuttingOutcome V
  putting a l = record { answer = a; left = l }

  -- full exactly for a new record at capacity; then nothing changes
  abbrev pub put_in : ℕ → Record V → List (Record V) → PuttingOutcome V
  put_in n r l = cond (is_there (record_at l r.key r.version) || nat_lt (count l) n) (putting (Ok tt) (put r l)) (putting (Err (record {})) l)
