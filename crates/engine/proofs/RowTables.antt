-- A row table's calls, in terms of the transactions that it means.
use Rattle.std.proofs.Common.{◌≡◌, ℕ, ◌<◌, Bool, true, false, cond, ◌||◌, eqb, ltb, List, [], ◌∷◌, length, Some, None, Ok, Err, Option, map, sym, refl, ap, ◌∙◌, arith}
use Rattle.std.proofs.lemmas.Bool.{lt-ltb}
use Rattle.std.proofs.lemmas.Bool.Decides.{nat_tests}
use Rattle.engine.specs.declared.row.Row.{Row}
use Rattle.model.specs.Maps.{is_there, look_up, enter, remove}
use Rattle.model.specs.Transactions.{Transaction}
use Rattle.table.specs.Meaning.{insert_answer, insert_entries}
use Rattle.engine.specs.Transactions.{transactions, transaction_of, transaction_in, put_transaction}

pick : (b : Bool) (x : Row) (o : Option Row) → transaction_in (cond b (Some x) o) ≡ cond b (Some (transaction_of x)) (transaction_in o)
pick true x o = refl
pick false x o = refl

pub look_transactions : (l : List (ℕ × Row)) (q : ℕ) → look_up (transactions l) q ≡ transaction_in (look_up l q)
unfolding look_up
look_transactions [] q = refl
look_transactions (e ∷ l) q = rw (look_transactions l q) (sym (pick (eqb q e.0) e.1 (look_up l q)))

over : (b c : Bool) (w x y : List (ℕ × Row)) → transactions (cond b w (cond c x y)) ≡ cond b (transactions w) (cond c (transactions x) (transactions y))
over true c w x y = refl
over false true w x y = refl
over false false w x y = refl

pub enter_transactions : (k : ℕ) (x : Row) (l : List (ℕ × Row)) → transactions (enter k x l) ≡ enter k (transaction_of x) (transactions l)
unfolding enter
enter_transactions k x [] = refl
enter_transactions k x (e ∷ l) =
    over (eqb k e.0) (ltb k e.0) ((k, x) ∷ l) ((k, x) ∷ e ∷ l) (e ∷ enter k x l) ∙ (rw (enter_transactions k x l) refl)

skip : (b : Bool) (x y : List (ℕ × Row)) → transactions (cond b x y) ≡ cond b (transactions x) (transactions y)
skip true x y = refl
skip false x y = refl

pub remove_transactions : (k : ℕ) (l : List (ℕ × Row)) → transactions (remove k l) ≡ remove k (transactions l)
unfolding remove
remove_transactions k [] = refl
remove_transactions k (e ∷ l) = skip (eqb k e.0) (remove k l) (e ∷ remove k l) ∙ (rw (remove_transactions k l) refl)

pub length_transactions : (l : List (ℕ × Row)) → length (transactions l) ≡ length l
length_transactions [] = refl
length_transactions (e ∷ l) = rw (length_transactions l) refl

pub put_is : (n id : ℕ) (row : Row) (l : List (ℕ × Row)) →
    transactions (insert_entries (insert_answer n id l) id row l) ≡ put_transaction n id (transaction_of row) (transactions l)
put_is n id row l = rw (look_transactions l id, length_transactions l) (go (look_up l id) (ltb (length l) n))
  where
    go : (o : Option Row) (b : Bool) →
        transactions (insert_entries (cond (is_there o || b) (Ok o) (Err (record {}))) id row l)
        ≡ cond (is_there (transaction_in o) || b) (enter id (transaction_of row) (transactions l)) (transactions l)
    go (Some x) b = enter_transactions id row l
    go None true = enter_transactions id row l
    go None false = refl

module _ (n id : ℕ) (t : Transaction) (l : List (ℕ × Transaction)) where
  -- a row that stands there is replaced
  pub put_there : (u : Transaction) → look_up l id ≡ Some u → put_transaction n id t l ≡ enter id t l
  put_there u e = rw e refl

  -- a new one goes where there is a place
  pub put_room : length l < n → put_transaction n id t l ≡ enter id t l
  put_room h = rw (lt-ltb (length l) n h) (go (is_there (look_up l id)))
    where
      go : (b : Bool) → cond (b || true) (enter id t l) l ≡ enter id t l
      go true = refl
      go false = refl

  -- what a put leaves where a row with that id was found
  pub put_found : (i : ℕ) (u : Transaction) (l' : List (ℕ × Transaction)) → l' ≡ put_transaction n i t l → i ≡ id → look_up l id ≡ Some u → l' ≡ enter id t l
  put_found i u l' e f h = e ∙ (ap (λ k. put_transaction n k t l) f ∙ put_there u h)

-- the row that is found at an id has it
pub found_id : (rs : List Row) (q : ℕ) (r : Row) → look_up (map (λ (x : Row). (x.id, x)) rs) q ≡ Some r → r.id ≡ q
unfolding look_up
found_id [] q r e = absurd (grind arith)
found_id (x ∷ rs) q r e = grind (arith, nat_tests, found_id rs q r)
