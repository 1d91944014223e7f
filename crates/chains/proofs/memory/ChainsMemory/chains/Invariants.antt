use Rattle.chains.specs.Links.{AllFree, Freed, col, chain_of, next_at}
use Rattle.chains.proofs.memory.ChainsMemory.chains.Given as goal

abbrev pub invariant-loop-i : goal.invariant-loop-i
invariant-loop-i g l = record { all : AllFree l.nodes l.i; freed : Freed l.i l.i (col chain_of l.nodes) (next_at l.nodes) l.free }
