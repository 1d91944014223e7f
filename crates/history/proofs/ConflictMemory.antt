-- A conflict table that forgets, and the test for a conflict.
use Rattle.std.proofs.Common.{◌≡◌, ℕ, ◌≤◌, max, Bool, true, false, cond, not, ◌&&◌, ◌||◌, eqb, ltb, leb, List, [], ◌∷◌, length, Some, None, Option, refl, arith}
use Rattle.std.proofs.lemmas.Bool.Decides.{nat_tests}
use Rattle.model.specs.Maps.{number_or_0, is_there, look_up, enter}
use Rattle.model.specs.Transactions.{member}
use Rattle.model.specs.Managers.{first_conflict, ConflictTable, conflict_table, discard, enter_conflict, enter_conflicts, least_entry}
use Rattle.model.proofs.LookUps.{enter_says, remove_says}

-- the last number that m knows of k
abbrev pub known : ConflictTable → ℕ → ℕ
known m k = max m.low (number_or_0 (look_up m.conflicts k))

-- m knows no number above a limit
pub record Bounded (b : ℕ) (m : ConflictTable) : Type 0 where
  pub low : m.low ≤ b
  pub all : (k : ℕ) → number_or_0 (look_up m.conflicts k) ≤ b

forget_knows : (o : Option (ℕ × ℕ)) (m : ConflictTable) (k : ℕ) → known m k ≤ known (discard o m) k
forget_knows None m k = omega arith
forget_knows (Some e) m k = grind (arith, remove_says e.0 m.conflicts k)

forget_bounded : (b : ℕ) (o : Option (ℕ × ℕ)) (m : ConflictTable) → Bounded b m → Bounded b (discard o m)
forget_bounded b None m B = B
forget_bounded b (Some e) m B = record { low = let a = B.all e.0 in omega (arith, B.low); all = λ k. grind (arith, remove_says e.0 m.conflicts k, B.all k) }

module _ (cap c : ℕ) where
  note_knows : (k : ℕ) (m : ConflictTable) (q : ℕ) → Bounded c m → known m q ≤ known (enter_conflict cap c k m) q
  unfolding enter_conflict
  note_knows k m q B = go (not (is_there (look_up m.conflicts k)) && leb cap (length m.conflicts))
    where
      go : (x : Bool) → known m q ≤ known (conflict_table (cond x (discard (least_entry m.conflicts) m) m).low (enter k c (cond x (discard (least_entry m.conflicts) m) m).conflicts)) q
      go true =
          let f = forget_knows (least_entry m.conflicts) m q in
          let a = forget_bounded c (least_entry m.conflicts) m B in
          grind (arith, enter_says k c (discard (least_entry m.conflicts) m).conflicts q, a.low, a.all q)
      go false = grind (arith, enter_says k c m.conflicts q, B.low, B.all q)

  note_here : (k : ℕ) (m : ConflictTable) → c ≤ known (enter_conflict cap c k m) k
  unfolding enter_conflict
  note_here k m = go (not (is_there (look_up m.conflicts k)) && leb cap (length m.conflicts))
    where
      go : (x : Bool) → c ≤ known (conflict_table (cond x (discard (least_entry m.conflicts) m) m).low (enter k c (cond x (discard (least_entry m.conflicts) m) m).conflicts)) k
      go true = grind (arith, enter_says k c (discard (least_entry m.conflicts) m).conflicts k)
      go false = grind (arith, enter_says k c m.conflicts k)

  note_bounded : (k : ℕ) (m : ConflictTable) → Bounded c m → Bounded c (enter_conflict cap c k m)
  unfolding enter_conflict
  note_bounded k m B = go (not (is_there (look_up m.conflicts k)) && leb cap (length m.conflicts))
    where
      go : (x : Bool) → Bounded c (conflict_table (cond x (discard (least_entry m.conflicts) m) m).low (enter k c (cond x (discard (least_entry m.conflicts) m) m).conflicts))
      go true = let a = forget_bounded c (least_entry m.conflicts) m B in record { low = a.low; all = λ q. grind (arith, enter_says k c (discard (least_entry m.conflicts) m).conflicts q, a.all q) }
      go false = record { low = B.low; all = λ q. grind (arith, enter_says k c m.conflicts q, B.all q) }

  pub all_bounded : (ks : List ℕ) (m : ConflictTable) → Bounded c m → Bounded c (enter_conflicts cap c ks m)
  unfolding enter_conflicts
  all_bounded [] m B = B
  all_bounded (k ∷ ks) m B = all_bounded ks (enter_conflict cap c k m) (note_bounded k m B)

  -- nothing known is lost
  pub all_knows : (ks : List ℕ) (m : ConflictTable) (q : ℕ) → Bounded c m → known m q ≤ known (enter_conflicts cap c ks m) q
  unfolding enter_conflicts
  all_knows [] m q B = omega arith
  all_knows (k ∷ ks) m q B = let a = note_knows k m q B in let b = all_knows ks (enter_conflict cap c k m) q (note_bounded k m B) in omega arith

  -- every key is known at c
  pub all_noted : (ks : List ℕ) (m : ConflictTable) (q : ℕ) → Bounded c m → member q ks ≡ true → c ≤ known (enter_conflicts cap c ks m) q
  unfolding enter_conflicts
  all_noted [] m q B e = grind arith
  all_noted (k ∷ ks) m q B e = go (eqb q k) refl e (λ f. all_noted ks (enter_conflict cap c k m) q (note_bounded k m B) f)
    where
      go : (x : Bool) → eqb q k ≡ x → (x || member q ks) ≡ true → (member q ks ≡ true → c ≤ known (enter_conflicts cap c ks (enter_conflict cap c k m)) q) → c ≤ known (enter_conflicts cap c ks (enter_conflict cap c k m)) q
      go true h e f =
          let i : q ≡ k = grind (arith, nat_tests) in
          let a : c ≤ known (enter_conflict cap c k m) q = rw i (note_here k m) in
          let b = all_knows ks (enter_conflict cap c k m) q (note_bounded k m B) in omega arith
      go false h e f = f e

-- no key in conflict
pub no_conflict : (id : ℕ) (t : List (ℕ × ℕ)) (ks : List ℕ) (k : ℕ) → first_conflict id t ks ≡ None → member k ks ≡ true → number_or_0 (look_up t k) ≤ id
unfolding first_conflict
no_conflict id t [] k e m = grind arith
no_conflict id t (x ∷ ks) k e m = go (ltb id (number_or_0 (look_up t x))) refl e (eqb k x) refl m (no_conflict id t ks k)
  where
    go : (b : Bool) → ltb id (number_or_0 (look_up t x)) ≡ b → cond b (Some x) (first_conflict id t ks) ≡ None → (a : Bool) → eqb k x ≡ a → (a || member k ks) ≡ true → (first_conflict id t ks ≡ None → member k ks ≡ true → number_or_0 (look_up t k) ≤ id) → number_or_0 (look_up t k) ≤ id
    go true f e a g m on = absurd (grind arith)
    go false f e true g m on = let i : k ≡ x = grind (arith, nat_tests) in rw i (grind (arith, nat_tests))
    go false f e false g m on = on e m
