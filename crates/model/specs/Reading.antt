-- Read: the transaction's own record, else the first record going down the versions that is committed below its start. A read that passes a pending record at or
-- above the fence aborts it, since that record could otherwise commit below the reader's start after it was read past.
use Rattle.std.specs.Prelude.{ℕ, Bool, true, false, cond, List, [], ◌∷◌, Some, None, Option, nat_lt}
use Rattle.model.specs.declared.words.Record.{Record}
use Rattle.model.specs.declared.words.CommitEntry.{CommitEntry}
use Rattle.model.specs.declared.words.CommitEntry.TheVariants.{Committed, Aborted}
use Rattle.model.specs.declared.words.Phase.{Phase}
use Rattle.model.specs.declared.words.Phase.TheVariants.{Open, Validated, Settled}
use Rattle.model.specs.declared.refusal.Refusal.TheVariants.{NoRow, WrongPhase, BelowFloor, EntriesFull}
use Rattle.model.specs.declared.call.Answer.{Answer}
use Rattle.model.specs.declared.call.Answer.TheVariants.{Value}
use Rattle.model.specs.Maps.{look_up, enter}
use Rattle.model.specs.Records.{record_at}
use Rattle.model.specs.Versions.{versions_down}
use Rattle.model.specs.Transactions.{Transaction}
use Rattle.model.specs.State.{State, deny, with_entries, raise_class_of}
use Rattle.model.specs.Stamping.{entry_refused, stamp_record}

module _ {V : Type 0} where
  -- an answered read: the class number rises to at least id, so that no fast write lands under the reader's start
  abbrev pub found : ℕ → ℕ → State V → Option V → State V × Answer V
  found id k s o = (raise_class_of k id s, Value o)

  -- a record stamped n answers if n is below id; else `go` reads on below it
  abbrev pub judge_number : ℕ → ℕ → ℕ → V → State V → (State V → State V × Answer V) → State V × Answer V
  judge_number id k n x s go = let r = go s in cond (nat_lt n id) (found id k s (Some x)) r

  -- a pending record of the version v with no entry; the tests: v is below the fence, so it can no longer settle; there is no place for an entry
  unfoldable pub judge_open : ℕ → State V → Bool → Bool → (State V → State V × Answer V) → State V × Answer V
  judge_open v s true b go = go s
  judge_open v s false true go = deny s (EntriesFull v)
  judge_open v s false false go = go (with_entries (enter v Aborted s.entries) s)

  -- a record of the version v with its number, its value and its entry: a pending one whose entry is committed is stamped first
  unfoldable pub judge_rec : ℕ → ℕ → ℕ → State V → Option ℕ → V → Option CommitEntry → (State V → State V × Answer V) → State V × Answer V
  unfolding judge_open
  judge_rec id k v s (Some n) x e go = judge_number id k n x s go
  judge_rec id k v s None x None go = judge_open v s (nat_lt v s.fence) (entry_refused s) go
  judge_rec id k v s None x (Some Aborted) go = go s
  judge_rec id k v s None x (Some (Committed n)) go = judge_number id k n x (stamp_record k v n s) go

  unfoldable pub judge : ℕ → ℕ → ℕ → State V → Option (Record V) → Option CommitEntry → (State V → State V × Answer V) → State V × Answer V
  unfolding judge_rec
  judge id k v s None e go = go s
  judge id k v s (Some r) e go = judge_rec id k v s r.number r.value e go

  -- down these versions of k
  unfoldable pub walk : ℕ → ℕ → List ℕ → State V → State V × Answer V
  unfolding judge
  walk id k [] s = found id k s None
  walk id k (v ∷ vs) s = judge id k v s (record_at s.records k v) (look_up s.entries v) (walk id k vs)

  -- the test: the id is below the floor; then its own record
  unfoldable pub read_if : ℕ → ℕ → State V → Bool → Option (Record V) → State V × Answer V
  unfolding walk
  read_if id k s true o = deny s (BelowFloor s.floor)
  read_if id k s false (Some r) = found id k s (Some r.value)
  read_if id k s false None = walk id k (versions_down s.records k id []) s

  -- by phase
  unfoldable pub read_in : ℕ → ℕ → State V → Phase → State V × Answer V
  unfolding read_if
  read_in id k s Open = read_if id k s (nat_lt id s.floor) (record_at s.records k id)
  read_in id k s (Validated c) = deny s (WrongPhase id)
  read_in id k s (Settled c) = deny s (WrongPhase id)

  -- by row
  unfoldable pub read_at : ℕ → ℕ → State V → Option Transaction → State V × Answer V
  unfolding read_in
  read_at id k s None = deny s (NoRow id)
  read_at id k s (Some r) = read_in id k s r.phase
