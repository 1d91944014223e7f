-- The transactions that a row table means.
use Rattle.std.specs.Prelude.{ℕ, cond, ◌||◌, List, [], ◌∷◌, length, Some, None, Option, nat_lt}
use Rattle.model.specs.Maps.{is_there, look_up, enter}
use Rattle.model.specs.Transactions.{Transaction, transaction}
use Rattle.model.specs.KeyLists.{keys_in}
use Rattle.table.specs.Meaning.{entries, capacity}
use Rattle.engine.specs.declared.row.Row.{Row}
use Rattle.engine.specs.declared.rows.Rows.{Rows}

-- what a row in memory means
abbrev pub transaction_of : Row → Transaction
transaction_of r = transaction r.phase (keys_in r.keys) r.stamped

abbrev pub transactions : List (ℕ × Row) → List (ℕ × Transaction)
transactions [] = []
transactions (e ∷ l) = (e.0, transaction_of e.1) ∷ transactions l

-- the transactions of a row table, in ascending order of their ids, and how many there is room for
abbrev pub rows_of : Rows → List (ℕ × Transaction)
rows_of r = transactions (entries r.table)

abbrev pub places : Rows → ℕ
places r = capacity r.table

abbrev pub transaction_in : Option Row → Option Transaction
transaction_in None = None
transaction_in (Some r) = Some (transaction_of r)

-- the transaction t stands at id, in place of what stood there; a new one finds no place where n are used
abbrev pub put_transaction : ℕ → ℕ → Transaction → List (ℕ × Transaction) → List (ℕ × Transaction)
put_transaction n id t l = cond (is_there (look_up l id) || nat_lt (length l) n) (enter id t l) l
