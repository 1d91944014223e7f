-- Records in ascending order: the order as a test, and that each change keeps it. Assumes nothing.
use Rattle.std.proofs.Common.{◌≡◌, ℕ, Bool, true, false, cond, List, [], ◌∷◌, Some, refl, arith}
use Rattle.std.proofs.lemmas.Bool.{and_parts, and_from}
use Rattle.std.proofs.lemmas.Bool.Decides.{nat_tests}
use Rattle.model.specs.declared.words.Record.{Record}
use Rattle.model.specs.Records.{record_of, stands, before, After, Ascending, put, mark, drop_record}
use Rattle.version_store.specs.Order.{all_after, in_order}

module _ {V : Type 0} where
  after_test : (r : Record V) (l : List (Record V)) → all_after r l ≡ true → After r l
  after_test r [] h = tt
  after_test r (d ∷ l) h = let w = and_parts (before r.key r.version d) (all_after r l) h in (w.0, after_test r l w.1)

  pub ascends : (l : List (Record V)) → in_order l ≡ true → Ascending l
  ascends [] h = tt
  ascends (r ∷ l) h = let w = and_parts (all_after r l) (in_order l) h in (after_test r l w.0, ascends l w.1)

  test_after : (r : Record V) (l : List (Record V)) → After r l → all_after r l ≡ true
  test_after r [] a = refl
  test_after r (d ∷ l) a = and_from (before r.key r.version d) (all_after r l) a.0 (test_after r l a.1)

  pub ordered : (l : List (Record V)) → Ascending l → in_order l ≡ true
  ordered [] a = refl
  ordered (r ∷ l) a = and_from (all_after r l) (in_order l) (test_after r l a.0) (ordered l a.1)

  -- what stands before a record, or at its place, stands before all after it
  pub after_before : (r s : Record V) (l : List (Record V)) → before r.key r.version s ≡ true → After s l → After r l
  after_before r s [] h a = tt
  after_before r s (d ∷ l) h a = (let b = a.0 in grind (arith, nat_tests), after_before r s l h a.1)

  after_same : (r s : Record V) (l : List (Record V)) → stands r.key r.version s ≡ true → After s l → After r l
  after_same r s [] h a = tt
  after_same r s (d ∷ l) h a = (let b = a.0 in grind (arith, nat_tests), after_same r s l h a.1)

  after_put : (r e : Record V) (l : List (Record V)) → before r.key r.version e ≡ true → After r l → After r (put e l)
  unfolding put
  after_put r e [] h a = (h, tt)
  after_put r e (c ∷ l) h a = go (stands e.key e.version c) (before e.key e.version c) (after_put r e l h a.1)
    where
      go : (x y : Bool) → After r (put e l) → After r (cond x (e ∷ l) (cond y (e ∷ c ∷ l) (c ∷ put e l)))
      go true y on = (h, a.1)
      go false true on = (h, a)
      go false false on = (a.0, on)

  pub put_ascends : (e : Record V) (l : List (Record V)) → Ascending l → Ascending (put e l)
  unfolding put
  put_ascends e [] a = (tt, tt)
  put_ascends e (c ∷ l) a = go (stands e.key e.version c) refl (before e.key e.version c) refl (put_ascends e l a.1)
    where
      go : (x : Bool) → stands e.key e.version c ≡ x → (y : Bool) → before e.key e.version c ≡ y → Ascending (put e l) → Ascending (cond x (e ∷ l) (cond y (e ∷ c ∷ l) (c ∷ put e l)))
      go true f y g on = (after_same e c l f a.0, a.1)
      go false f true g on = ((g, after_before e c l g a.0), a)
      go false f false g on = (after_put c e l (grind (arith, nat_tests)) a.0, on)

  after_drop : (k v : ℕ) (r : Record V) (l : List (Record V)) → After r l → After r (drop_record k v l)
  unfolding drop_record
  after_drop k v r [] a = tt
  after_drop k v r (c ∷ l) a = go (stands k v c) (after_drop k v r l a.1)
    where
      go : (x : Bool) → After r (drop_record k v l) → After r (cond x (drop_record k v l) (c ∷ drop_record k v l))
      go true on = on
      go false on = (a.0, on)

  pub drop_ascends : (k v : ℕ) (l : List (Record V)) → Ascending l → Ascending (drop_record k v l)
  unfolding drop_record
  drop_ascends k v [] a = tt
  drop_ascends k v (c ∷ l) a = go (stands k v c) (drop_ascends k v l a.1)
    where
      go : (x : Bool) → Ascending (drop_record k v l) → Ascending (cond x (drop_record k v l) (c ∷ drop_record k v l))
      go true on = on
      go false on = (after_drop k v c l a.0, on)

  after_mark : (k v n : ℕ) (r : Record V) (l : List (Record V)) → After r l → After r (mark k v n l)
  unfolding mark
  after_mark k v n r [] a = tt
  after_mark k v n r (c ∷ l) a = go (stands k v c) (after_mark k v n r l a.1)
    where
      go : (x : Bool) → After r (mark k v n l) → After r (cond x (record_of c.key c.version (Some n) c.value) c ∷ mark k v n l)
      go true on = (a.0, on)
      go false on = (a.0, on)

  marked_after : (n : ℕ) (r : Record V) (l : List (Record V)) → After r l → After (record_of r.key r.version (Some n) r.value) l
  marked_after n r [] a = tt
  marked_after n r (c ∷ l) a = (a.0, marked_after n r l a.1)

  pub mark_ascends : (k v n : ℕ) (l : List (Record V)) → Ascending l → Ascending (mark k v n l)
  unfolding mark
  mark_ascends k v n [] a = tt
  mark_ascends k v n (c ∷ l) a = go (stands k v c) (mark_ascends k v n l a.1)
    where
      go : (x : Bool) → Ascending (mark k v n l) → Ascending (cond x (record_of c.key c.version (Some n) c.value) c ∷ mark k v n l)
      go true on = (marked_after n c (mark k v n l) (after_mark k v n c l a.0), on)
      go false on = (after_mark k v n c l a.0, on)
