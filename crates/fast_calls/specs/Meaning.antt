-- Which number a fast write takes.
use Rattle.std.specs.Prelude.{ℕ, suc, ◌%◌, cond, Some, None, Option, ◌==◌}
use Rattle.model.specs.Numbers.{U}

-- the number after n, unless it is a whole step
abbrev pub next_number : ℕ → Option ℕ
next_number n = cond (suc n % U == 0) None (Some (suc n))
