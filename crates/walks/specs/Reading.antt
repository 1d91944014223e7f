-- What a read does at one record, and what it answers.
use Rattle.std.specs.Prelude.{ℕ, Bool, true, false, cond, List, [], ◌∷◌, Some, None, Ok, Err, Option, Result, nat_lt}
use Rattle.model.specs.declared.words.Record.{Record}
use Rattle.model.specs.declared.words.CommitEntry.{CommitEntry}
use Rattle.model.specs.declared.words.CommitEntry.TheVariants.{Committed, Aborted}
use Rattle.model.specs.declared.refusal.Refusal.{Refusal}
use Rattle.model.specs.declared.refusal.Refusal.TheVariants.{EntriesFull}
use Rattle.model.specs.declared.call.Answer.{Answer}
use Rattle.model.specs.declared.call.Answer.TheVariants.{Denied, Value}
use Rattle.model.specs.Maps.{look_up, enter}
use Rattle.model.specs.Records.{record_of}
use Rattle.model.specs.Versions.{number_under}
use Rattle.model.specs.State.{State, with_entries}
use Rattle.model.specs.Stamping.{entry_refused, stamp_record}

-- the number learnt
abbrev pub learnt : Result (Option ℕ) Refusal → Option ℕ
learnt (Ok o) = o
learnt (Err w) = None

module _ {V : Type 0} where
  -- a pending record of the version v with no entry; the tests: v is below the fence; there is no place for an entry
  abbrev pub learn_open : ℕ → State V → Bool → Bool → State V × Result (Option ℕ) Refusal
  learn_open v s true b = (s, Ok None)
  learn_open v s false true = (s, Err (EntriesFull v))
  learn_open v s false false = (with_entries (enter v Aborted s.entries) s, Ok None)

  -- what is learnt of the commit number of the record of k at v, by its number and its entry
  abbrev pub learn : ℕ → ℕ → State V → Option ℕ → Option CommitEntry → State V × Result (Option ℕ) Refusal
  learn k v s (Some n) e = (s, Ok (Some n))
  learn k v s None None = learn_open v s (nat_lt v s.fence) (entry_refused s)
  learn k v s None (Some Aborted) = (s, Ok None)
  learn k v s None (Some (Committed n)) = (stamp_record k v n s, Ok (Some n))

  -- the record r with the number learnt, if that is below id
  abbrev pub below_start : ℕ → Record V → Result (Option ℕ) Refusal → Result (Option (Record V)) Refusal
  below_start id r (Err w) = Err w
  below_start id r (Ok None) = Ok None
  below_start id r (Ok (Some n)) = cond (nat_lt n id) (Ok (Some (record_of r.key r.version (Some n) r.value))) (Ok None)

  abbrev pub judged : ℕ → ℕ → Record V → State V → State V × Result (Option (Record V)) Refusal
  judged id k r s =
      let p = learn k r.version s r.number (look_up s.entries r.version) in
      (p.0, below_start id r p.1)

  -- a record, if its number is below m
  abbrev pub if_below : ℕ → Option (Record V) → Option (Record V)
  if_below m None = None
  if_below m (Some r) = cond (number_under m r.number) (Some r) None

  -- the records numbered below m
  unfoldable pub numbered_below : ℕ → List (Record V) → List (Record V)
  numbered_below m [] = []
  numbered_below m (r ∷ l) = cond (number_under m r.number) (r ∷ numbered_below m l) (numbered_below m l)

  -- the answer of a read that found a record or nothing, or was denied
  abbrev pub read_answer : Result (Option (Record V)) Refusal → Answer V
  read_answer (Ok None) = Value None
  read_answer (Ok (Some r)) = Value (Some r.value)
  read_answer (Err w) = Denied w
