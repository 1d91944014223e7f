-- Steps and numbers. A step is what a manager's clock counts; a number is a step times U and a tail below U. Transactions begin and validate at whole
-- steps (tail 0); fast writes take the numbers between, so that each lands after what was committed or read before it and before the next step.
use Rattle.std.specs.Prelude.{ℕ, Bool, ◌&&◌, nat_le}

-- 2 ^ 20
abbrev pub U : ℕ
U = 1048576

-- 2 ^ 43, the greatest cell: no number of the database passes 2 ^ 63
abbrev pub last_step : ℕ
last_step = 8796093022208

-- the greatest number that a call can name, 2 ^ 64 - 1
abbrev pub last_number : ℕ
last_number = 18446744073709551615

-- n is from 1 to a limit
abbrev pub from_1_to : ℕ → ℕ → Bool
from_1_to m n = nat_le 1 n && nat_le n m
