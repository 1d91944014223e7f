-- What a shelf means, and when one is made.
use Rattle.std.specs.Prelude.{ℕ, cond, List, take, Err, Result, ◌==◌}
use Rattle.model.specs.declared.words.Record.{Record}
use Rattle.model.specs.declared.refusal.Refusal.{Refusal}
use Rattle.model.specs.declared.refusal.Refusal.TheVariants.{OutsideLimits}
use Rattle.version_store.specs.Making.{making}
use Rattle.shelf.specs.declared.shelf.Shelf.{Shelf}
use Rattle.shelf.specs.Index.{named}

-- the records on a shelf, in order
abbrev pub shelved : {V : Type 0} → Shelf V → List (Record V)
shelved s = named s.records.now (take s.len s.index.now)

-- a shelf is made over n places with as many index numbers
abbrev pub making_both : ℕ → ℕ → Result Unit Refusal
making_both n m = cond (m == n) (making n) (Err OutsideLimits)
