-- Which memory a sheet takes, and its spare places after placing.
use Rattle.std.specs.Prelude.{ℕ, cond, List, drop, Ok, Err, Result}
use Rattle.model.specs.declared.refusal.Refusal.{Refusal}
use Rattle.model.specs.declared.refusal.Refusal.TheVariants.{OutsideLimits}
use Rattle.model.specs.Numbers.{from_1_to}
use Rattle.commit_table.specs.declared.NotPlaced.{NotPlaced}

-- the answer for a memory of n places
abbrev pub memory_answer : ℕ → Result Unit Refusal
memory_answer n = cond (from_1_to 2000 n) (Ok tt) (Err OutsideLimits)

-- an answer without the memory that it holds
abbrev pub outcome : {X E : Type 0} → Result X E → Result Unit E
outcome (Ok x) = Ok tt
outcome (Err e) = Err e

-- the spare places after placing, by its answer: one fewer where the entry was placed
abbrev pub place_spare : {X : Type 0} → Result (Unit {0}) NotPlaced → List X → List X
place_spare (Ok u) es = drop 1 es
place_spare (Err w) es = es
