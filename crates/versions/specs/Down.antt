-- From one version of a key to the next lower.
use Rattle.std.specs.Prelude.{ℕ, zero, suc, List, None, Option}
use Rattle.model.specs.declared.words.Record.{Record}
use Rattle.model.specs.Records.{newest}

-- the record of k of greatest version below v
abbrev pub older : {V : Type 0} → ℕ → ℕ → List (Record V) → Option (Record V)
older k zero l = None
older k (suc b) l = newest k b l
