-- Making a store over lent memory.
use Rattle.std.specs.Prelude.{ℕ, cond, ◌&&◌, Ok, Err, Result, nat_le}
use Rattle.model.specs.declared.refusal.Refusal.{Refusal}
use Rattle.model.specs.declared.refusal.Refusal.TheVariants.{OutsideLimits}

-- an answer, without what it holds
abbrev pub answered : {X E : Type 0} → Result X E → Result Unit E
answered (Ok x) = Ok tt
answered (Err e) = Err e

-- a store is made over 1 to 4,096 places
abbrev pub making : ℕ → Result Unit Refusal
making n = cond (nat_le 1 n && nat_le n 4096) (Ok tt) (Err OutsideLimits)
