-- Class numbers. The class of a key is the key modulo 64, and each class has one number: at least every number stamped and every id that read at a key of the class.
-- A fast write takes the next number of its key's class, so it lands after all of these, with no greatest version kept for each key.
use Rattle.std.specs.Prelude.{ℕ, ◌%◌, max, List, slice_index, slice_set}

-- the number of the class of the key k
unfoldable pub class_number : List ℕ → ℕ → ℕ
class_number cs k = slice_index cs (k % 64)

-- that number raised to at least n
unfoldable pub raise_class : ℕ → ℕ → List ℕ → List ℕ
unfolding class_number
raise_class k n cs = slice_set cs (k % 64) (max (class_number cs k) n)
