-- What the calls answer, by what they come to.
use Rattle.std.specs.Prelude.{ℕ, Some, None, Ok, Err, Option, Result}
use Rattle.model.specs.declared.refusal.Refusal.{Refusal}
use Rattle.model.specs.declared.words.Stamped.{Stamped}
use Rattle.model.specs.declared.call.Answer.{Answer}
use Rattle.model.specs.declared.call.Answer.TheVariants.{Denied, Number, Value, Newest}

module _ {V : Type 0} where
  -- a call that gives a number or a refusal
  abbrev pub answer_of : Result ℕ Refusal → Answer V
  answer_of (Ok n) = Number n
  answer_of (Err w) = Denied w

  -- a read: a value, nothing, or a refusal
  abbrev pub value_answer : Result (Option V) Refusal → Answer V
  value_answer (Ok o) = Value o
  value_answer (Err w) = Denied w

  -- a stamped number and its value, or 0 and nothing
  abbrev pub stamped_pair : Option (Stamped V) → ℕ × Option V
  stamped_pair (Some m) = (m.number, Some m.value)
  stamped_pair None = (0, None)

  -- a fast read: the greatest stamped number and its value, or 0 and nothing
  abbrev pub newest_answer : Option (Stamped V) → Answer V
  newest_answer o = Newest (stamped_pair o).0 (stamped_pair o).1
