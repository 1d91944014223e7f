-- Conflict tables: looking for a conflict, making room and entering keys.
use Rattle.std.proofs.Common.{◌≡◌, ℕ, ◌<◌, ◌≤◌, true, false, Result, List, [], ◌∷◌, ltb, length, Some, None, Option, unwrap_or, is_err, refl, arith}
use Rattle.std.proofs.lemmas.Bool.Decides.{nat_tests}
use Rattle.std.specs.List.{find, fold}
use Rattle.model.specs.declared.words.Full.{Full}
use Rattle.model.specs.Maps.{number_or_0, look_up, Rising}
use Rattle.model.specs.Managers.{first_conflict, least_entry, discard, ConflictTable, conflict_table, enter_conflict, enter_conflicts}
use Rattle.table.specs.Meaning.{insert_answer, insert_entries}
use Rattle.manager.proofs.Least.{least_stands, least_some, remove_less}

number_is : (o : Option ℕ) → number_or_0 o ≡ unwrap_or o 0
number_is None = refl
number_is (Some n) = refl

pub first_is_find : (id : ℕ) (t : List (ℕ × ℕ)) (ks : List ℕ) → first_conflict id t ks ≡ find (λ k. ltb id (unwrap_or (look_up t k) 0)) ks
unfolding first_conflict
first_is_find id t [] = refl
first_is_find id t (k ∷ ks) = rw (first_is_find id t ks, number_is (look_up t k)) refl

forgets_some : (low : ℕ) (t : List (ℕ × ℕ)) → Rising t → 1 ≤ length t → length (discard (least_entry t) (conflict_table low t)).conflicts < length t
forgets_some low t r l = go (least_entry t) refl
  where
    go : (o : Option (ℕ × ℕ)) → least_entry t ≡ o → length (discard o (conflict_table low t)).conflicts < length t
    go None e = let z = least_some t e in omega arith
    go (Some e) h = remove_less e.0 e.1 t (least_stands t e r h)

module _ (n k c low : ℕ) (t : List (ℕ × ℕ)) (r : Result (Option ℕ) Full) (v : List (ℕ × ℕ)) (a : r ≡ insert_answer n k t) (b : v ≡ insert_entries r k c t) where
  -- the key was inserted at once
  pub enters_at_once : is_err r ≡ false → conflict_table low v ≡ enter_conflict n c k (conflict_table low t)
  unfolding enter_conflict
  enters_at_once e = grind (arith, nat_tests)

  -- the table was full, and forgot its least entry
  pub enters_full : is_err r ≡ true → Rising t → 1 ≤ n → length t ≤ n → (m : ConflictTable) → m ≡ discard (least_entry v) (conflict_table low v) → (q : Result (Option ℕ) Full) (u : List (ℕ × ℕ)) →
      q ≡ insert_answer n k m.conflicts → u ≡ insert_entries q k c m.conflicts → conflict_table m.low u ≡ enter_conflict n c k (conflict_table low t)
  unfolding enter_conflict
  enters_full e s p w m d q u f g = let z = forgets_some low t s in grind (arith, nat_tests)

pub entering_folds : (n c : ℕ) (ks : List ℕ) (m : ConflictTable) → enter_conflicts n c ks m ≡ fold (λ m k. enter_conflict n c k m) m ks
unfolding enter_conflicts
entering_folds n c [] m = refl
entering_folds n c (k ∷ ks) m = entering_folds n c ks (enter_conflict n c k m)
