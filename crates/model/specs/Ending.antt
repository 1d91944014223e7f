-- Abandon, by a client that gives up its transaction; bury, by a housekeeper, of a transaction that the fence has passed.
use Rattle.std.specs.Prelude.{ℕ, Bool, true, false, List, length, drop, Some, None, Option, nat_lt}
use Rattle.model.specs.declared.words.Phase.{Phase}
use Rattle.model.specs.declared.words.Phase.TheVariants.{Open, Validated, Settled}
use Rattle.model.specs.declared.refusal.Refusal.TheVariants.{NoRow, WrongPhase, NotFenced}
use Rattle.model.specs.declared.call.Answer.{Answer}
use Rattle.model.specs.declared.call.Answer.TheVariants.{Number}
use Rattle.model.specs.Versions.{count_pending_all}
use Rattle.model.specs.Transactions.{Transaction}
use Rattle.model.specs.State.{State, deny}
use Rattle.model.specs.Stamping.{stamp_records, row_gone, records_gone}

module _ {V : Type 0} where
  -- the answer is how many records went
  abbrev pub abandoned : ℕ → List ℕ → State V → State V × Answer V
  abandoned id ks s = (records_gone id ks s, Number (count_pending_all id ks s.records))

  -- abandon, by phase
  unfoldable pub abandon_in : ℕ → State V → Phase → List ℕ → State V × Answer V
  abandon_in id s Open ks = abandoned id ks s
  abandon_in id s (Validated c) ks = abandoned id ks s
  abandon_in id s (Settled c) ks = deny s (WrongPhase id)

  -- by row
  unfoldable pub abandon_at : ℕ → State V → Option Transaction → State V × Answer V
  unfolding abandon_in
  abandon_at id s None = deny s (NoRow id)
  abandon_at id s (Some r) = abandon_in id s r.phase r.keys

  -- bury, by phase; the test: the id is below the fence. A settled row has its remaining keys stamped, and the answer is how many; any other is abandoned
  unfoldable pub bury_in : ℕ → State V → Phase → List ℕ → ℕ → Bool → State V × Answer V
  bury_in id s p ks n false = deny s (NotFenced id)
  bury_in id s Open ks n true = abandoned id ks s
  bury_in id s (Validated c) ks n true = abandoned id ks s
  bury_in id s (Settled c) ks n true = (row_gone id (stamp_records id c (drop n ks) s), Number (length (drop n ks)))

  -- by row
  unfoldable pub bury_at : ℕ → State V → Option Transaction → State V × Answer V
  unfolding bury_in
  bury_at id s None = deny s (NoRow id)
  bury_at id s (Some r) = bury_in id s r.phase r.keys r.stamped (nat_lt id s.fence)
