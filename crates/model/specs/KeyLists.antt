-- The keys of a transaction in memory, and what adding one leaves.
use Rattle.std.specs.Prelude.{ℕ, cond, not, ◌&&◌, List, length, take, Ok, Err, Result, nat_le}
use Rattle.model.specs.declared.keys.Keys.{Keys}
use Rattle.model.specs.declared.words.Full.{Full}
use Rattle.model.specs.Transactions.{member, with_key}

abbrev pub keys_in : Keys → List ℕ
keys_in s = take s.len s.places

-- an answer, and the keys that are left
pub record Adding : Type 0 where
  pub answer : Result (Unit {0}) Full
  pub left : List ℕ

abbrev pub adding : Result (Unit {0}) Full → List ℕ → Adding
adding r ks = record { answer = r; left = ks }

-- adding the key k: full where 16 are held and k is new
abbrev pub add_in : ℕ → List ℕ → Adding
add_in k ks = cond (not (member k ks) && nat_le 16 (length ks)) (adding (Err (record {})) ks) (adding (Ok tt) (with_key k ks))
