use Rattle.std.proofs.Common.{ℕ, length}
use Rattle.strip.proofs.Reading.{Walked}
use Rattle.strip.proofs.bytes.place_in.Given as goal

abbrev pub invariant-loop-first : goal.invariant-loop-first
invariant-loop-first l = (k : ℕ) × Walked l.body l.rest l.id k

abbrev pub decreases-loop-first : goal.decreases-loop-first
decreases-loop-first l = length l.rest
