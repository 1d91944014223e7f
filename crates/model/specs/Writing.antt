-- Write: a pending record at the transaction's own version.
use Rattle.std.specs.Prelude.{ℕ, Bool, true, false, not, ◌&&◌, List, length, Some, None, Option, nat_le, nat_lt}
use Rattle.model.specs.declared.words.Phase.{Phase}
use Rattle.model.specs.declared.words.Phase.TheVariants.{Open, Validated, Settled}
use Rattle.model.specs.declared.refusal.Refusal.TheVariants.{NoRow, WrongPhase, Fenced, KeysFull, ConflictAtEngine, StoreFull}
use Rattle.model.specs.declared.call.Answer.{Answer}
use Rattle.model.specs.declared.call.Answer.TheVariants.{Number}
use Rattle.model.specs.Maps.{enter}
use Rattle.model.specs.Records.{record_of, put}
use Rattle.model.specs.Versions.{greatest_stamped}
use Rattle.model.specs.Transactions.{Transaction, transaction, member, with_key}
use Rattle.model.specs.State.{State, deny, with_rows, with_records}
use Rattle.model.specs.Stamping.{record_refused}

module _ {V : Type 0} where
  -- the tests: the id is below the fence; 16 keys are held and this one is new; a stamped record of the key has a greater number; the store is full
  unfoldable pub write_if : ℕ → ℕ → V → List ℕ → ℕ → State V → Bool → Bool → Bool → Bool → State V × Answer V
  write_if id k x ks n s true b c d = deny s (Fenced id)
  write_if id k x ks n s false true c d = deny s (KeysFull k)
  write_if id k x ks n s false false true d = deny s (ConflictAtEngine k)
  write_if id k x ks n s false false false true = deny s (StoreFull k)
  write_if id k x ks n s false false false false =
      (with_rows (enter id (transaction Open (with_key k ks) n) s.rows) (with_records (put (record_of k id None x) s.records) s), Number (length (with_key k ks)))

  -- by phase
  unfoldable pub write_in : ℕ → ℕ → V → State V → Phase → List ℕ → ℕ → State V × Answer V
  unfolding write_if
  write_in id k x s Open ks n = write_if id k x ks n s (nat_lt id s.fence) (not (member k ks) && nat_le 16 (length ks)) (nat_lt id (greatest_stamped k s.records).0) (record_refused k id s)
  write_in id k x s (Validated c) ks n = deny s (WrongPhase id)
  write_in id k x s (Settled c) ks n = deny s (WrongPhase id)

  -- by row
  unfoldable pub write_at : ℕ → ℕ → V → State V → Option Transaction → State V × Answer V
  unfolding write_in
  write_at id k x s None = deny s (NoRow id)
  write_at id k x s (Some r) = write_in id k x s r.phase r.keys r.stamped
