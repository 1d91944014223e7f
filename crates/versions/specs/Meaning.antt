-- What the code's own types mean in the reference database's terms.
use Rattle.std.specs.Prelude.{ℕ, List, Option}
use Rattle.model.specs.declared.words.Record.{Record}
use Rattle.model.specs.Answers.{stamped_pair}
use Rattle.model.specs.State.{State, with_classes, with_records}
use Rattle.versions.specs.declared.classes.ClassNumbers.{ClassNumbers}
use Rattle.versions.specs.declared.questions.KeySummary.{KeySummary}

-- the 64 class numbers, the first class first
abbrev pub numbers_of : ClassNumbers → List ℕ
numbers_of c = c.numbers

-- the greatest stamped number and its value
abbrev pub greatest_of : {V : Type 0} → KeySummary V → ℕ × Option V
greatest_of s = stamped_pair s.greatest

-- the state s with these class numbers and these records
abbrev pub with_versions : {V : Type 0} → List ℕ → List (Record V) → State V → State V
with_versions c l s = with_classes c (with_records l s)
