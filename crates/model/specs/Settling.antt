-- Settle, which commits: from its commit entry on a transaction is committed. Stamp, which then carries the number to the records, one key a call; the entry goes
-- only after the last key is stamped, since until then the entry alone says that the records left are committed.
use Rattle.std.specs.Prelude.{ℕ, suc, Bool, true, false, List, [], ◌∷◌, length, drop, Some, None, Option, nat_lt}
use Rattle.model.specs.declared.words.CommitEntry.{CommitEntry}
use Rattle.model.specs.declared.words.CommitEntry.TheVariants.{Committed, Aborted}
use Rattle.model.specs.declared.words.Phase.{Phase}
use Rattle.model.specs.declared.words.Phase.TheVariants.{Open, Validated, Settled}
use Rattle.model.specs.declared.refusal.Refusal.TheVariants.{NoRow, WrongPhase, Fenced, EntriesFull, EntryAborted}
use Rattle.model.specs.declared.call.Answer.{Answer}
use Rattle.model.specs.declared.call.Answer.TheVariants.{Number}
use Rattle.model.specs.Maps.{look_up, enter}
use Rattle.model.specs.Transactions.{Transaction, transaction}
use Rattle.model.specs.State.{State, deny, with_rows, with_entries}
use Rattle.model.specs.Stamping.{entry_refused, stamp_record, row_gone}

module _ {V : Type 0} where
  -- the row is settled, and the entries are e
  abbrev pub settled : ℕ → ℕ → List ℕ → ℕ → List (ℕ × CommitEntry) → State V → State V × Answer V
  settled id c ks n e s = (with_rows (enter id (transaction (Settled c) ks n) s.rows) (with_entries e s), Number c)

  -- the tests: the id is below the fence; the entry says aborted; a new entry finds no place. An entry that says committed would stay as it is; no past leads there
  unfoldable pub settle_if : ℕ → ℕ → List ℕ → ℕ → State V → Bool → Option CommitEntry → Bool → State V × Answer V
  settle_if id c ks n s true e b = deny s (Fenced id)
  settle_if id c ks n s false (Some Aborted) b = deny s (EntryAborted id)
  settle_if id c ks n s false (Some (Committed m)) b = settled id c ks n s.entries s
  settle_if id c ks n s false None true = deny s (EntriesFull id)
  settle_if id c ks n s false None false = settled id c ks n (enter id (Committed c) s.entries) s

  -- by phase
  unfoldable pub settle_in : ℕ → State V → Phase → List ℕ → ℕ → State V × Answer V
  unfolding settle_if
  settle_in id s Open ks n = deny s (WrongPhase id)
  settle_in id s (Validated c) ks n = settle_if id c ks n s (nat_lt id s.fence) (look_up s.entries id) (entry_refused s)
  settle_in id s (Settled c) ks n = deny s (WrongPhase id)

  -- by row
  unfoldable pub settle_at : ℕ → State V → Option Transaction → State V × Answer V
  unfolding settle_in
  settle_at id s None = deny s (NoRow id)
  settle_at id s (Some r) = settle_in id s r.phase r.keys r.stamped

  -- stamp, by the keys that are left
  unfoldable pub stamp_left : ℕ → ℕ → List ℕ → ℕ → State V → List ℕ → State V × Answer V
  stamp_left id c ks n s [] = (row_gone id s, Number 0)
  stamp_left id c ks n s (k ∷ []) = (row_gone id (stamp_record k id c s), Number 0)
  stamp_left id c ks n s (k ∷ l ∷ ls) = (with_rows (enter id (transaction (Settled c) ks (suc n)) s.rows) (stamp_record k id c s), Number (suc (length ls)))

  -- by phase
  unfoldable pub stamp_in : ℕ → State V → Phase → List ℕ → ℕ → State V × Answer V
  unfolding stamp_left
  stamp_in id s Open ks n = deny s (WrongPhase id)
  stamp_in id s (Validated c) ks n = deny s (WrongPhase id)
  stamp_in id s (Settled c) ks n = stamp_left id c ks n s (drop n ks)

  -- by row
  unfoldable pub stamp_at : ℕ → State V → Option Transaction → State V × Answer V
  unfolding stamp_in
  stamp_at id s None = deny s (NoRow id)
  stamp_at id s (Some r) = stamp_in id s r.phase r.keys r.stamped
