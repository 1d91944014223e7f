-- Placing a transaction's commit entry.
use Rattle.std.specs.Prelude.{ℕ, cond, List, length, Some, None, Ok, Err, Option, Result, nat_lt}
use Rattle.model.specs.declared.words.CommitEntry.{CommitEntry}
use Rattle.model.specs.declared.words.CommitEntry.TheVariants.{Committed, Aborted}
use Rattle.model.specs.declared.refusal.Refusal.{Refusal}
use Rattle.model.specs.declared.refusal.Refusal.TheVariants.{EntriesFull, EntryAborted}
use Rattle.model.specs.Maps.{enter}

-- an answer, and the entries that are left
pub record Committing : Type 0 where
  pub answer : Result (Unit {0}) Refusal
  pub left : List (ℕ × CommitEntry)

abbrev pub committing : Result (Unit {0}) Refusal → List (ℕ × CommitEntry) → Committing
committing r l = record { answer = r; left = l }

-- "committed at c" for id, among the entries l with room for n, given what stands at id
abbrev pub commit_at : ℕ → ℕ → ℕ → List (ℕ × CommitEntry) → Option CommitEntry → Committing
commit_at n id c l (Some Aborted) = committing (Err (EntryAborted id)) l
commit_at n id c l (Some (Committed m)) = committing (Ok tt) l
commit_at n id c l None = cond (nat_lt (length l) n) (committing (Ok tt) (enter id (Committed c) l)) (committing (Err (EntriesFull id)) l)
