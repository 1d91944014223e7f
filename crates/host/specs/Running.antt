-- What calls answer on a database that is opened for them.
use Rattle.std.specs.Prelude.{◌≡◌, ℕ, List, Ok}
use Rattle.model.specs.declared.call.Opening.{Opening}
use Rattle.model.specs.declared.call.Call.{Call}
use Rattle.model.specs.declared.call.Answer.{Answer}
use Rattle.model.specs.State.{State, opened}
use Rattle.model.specs.After.{after}
use Rattle.history.specs.Law.{Lawful}
use Rattle.database.specs.Running.{answers_to, written_past}

-- the opening z over a store with n places and a commit table with m
abbrev pub with_places : ℕ → ℕ → Opening → Opening
with_places n m z = record { first = z.first; span = z.span; rows = z.rows; conflicts0 = z.conflicts0; conflicts1 = z.conflicts1; records = n; entries = m }

-- the database s was opened from z, over a store and a commit table that held so many records and entries; the calls got the answers that the reference database gives,
-- and the past that they make obeys the whole history law
pub record Answered {V : Type 0} (z : Opening) (records entries : ℕ) (cs : List (Call V)) (ans : List (Answer V)) : Type 0 where
  pub start : State V
  pub opens : opened z records entries ≡ Ok start
  pub answers : ans ≡ answers_to start cs
  pub lawful : Lawful (written_past cs ans) (after start cs)
