-- What the reference step gives on each way through write.
use Rattle.std.proofs.Common.{◌≡◌, ℕ, ◌<◌, ◌≤◌, true, false, not, ◌&&◌, leb, List, length, Some, None, refl, ltb}
use Rattle.std.proofs.lemmas.Bool.{lt-ltb, le-ltb}
use Rattle.model.specs.declared.words.Phase.{Phase}
use Rattle.model.specs.declared.words.Phase.TheVariants.{Open, Validated, Settled}
use Rattle.model.specs.declared.refusal.Refusal.TheVariants.{NoRow, WrongPhase, Fenced, KeysFull, ConflictAtEngine, StoreFull}
use Rattle.model.specs.declared.call.Call.TheVariants.{Write}
use Rattle.model.specs.declared.call.Answer.TheVariants.{Denied, Number}
use Rattle.model.specs.Maps.{look_up, enter}
use Rattle.model.specs.Records.{record_of, put}
use Rattle.model.specs.Versions.{greatest_stamped}
use Rattle.model.specs.Transactions.{transaction, member, with_key}
use Rattle.model.specs.State.{State, with_rows, with_records}
use Rattle.model.specs.Stamping.{record_refused}
use Rattle.model.specs.Writing.{write_at, write_in, write_if}
use Rattle.model.specs.Step.{step}

module _ {V : Type 0} (s : State V) (id k : ℕ) (x : V) where
  pub write_no_row : look_up s.rows id ≡ None → step s (Write id k x) ≡ (s, Denied (NoRow id))
  unfolding step write_at
  write_no_row e = rw e refl

  module _ (p : Phase) (ks : List ℕ) (n : ℕ) (e : look_up s.rows id ≡ Some (transaction p ks n)) where
    pub write_wrong_phase : (p ≡ Open → ⊥) → step s (Write id k x) ≡ (s, Denied (WrongPhase id))
    unfolding step write_at write_in
    write_wrong_phase h = rw e (go p h)
      where
        go : (q : Phase) → (q ≡ Open → ⊥) → write_in id k x s q ks n ≡ (s, Denied (WrongPhase id))
        go Open h = absurd (h refl)
        go (Validated c) h = refl
        go (Settled c) h = refl

    module _ (h : p ≡ Open) where
      pub write_fenced : id < s.fence → step s (Write id k x) ≡ (s, Denied (Fenced id))
      unfolding step write_at write_in write_if
      write_fenced l = rw (e, h, lt-ltb id s.fence l) refl

      module _ (l : s.fence ≤ id) where
        pub write_keys_full : (not (member k ks) && leb 16 (length ks)) ≡ true → step s (Write id k x) ≡ (s, Denied (KeysFull k))
        unfolding step write_at write_in write_if
        write_keys_full f = rw (e, h, le-ltb id s.fence l, f) refl

        module _ (a : (not (member k ks) && leb 16 (length ks)) ≡ false) where
          pub write_conflict : ltb id (greatest_stamped k s.records).0 ≡ true → step s (Write id k x) ≡ (s, Denied (ConflictAtEngine k))
          unfolding step write_at write_in write_if
          write_conflict c = rw (e, h, le-ltb id s.fence l, a, c) refl

          module _ (c : ltb id (greatest_stamped k s.records).0 ≡ false) where
            pub write_store_full : record_refused k id s ≡ true → step s (Write id k x) ≡ (s, Denied (StoreFull k))
            unfolding step write_at write_in write_if
            write_store_full o = rw (e, h, le-ltb id s.fence l, a, c, o) refl

            pub write_done : record_refused k id s ≡ false →
                step s (Write id k x) ≡ (with_rows (enter id (transaction Open (with_key k ks) n) s.rows) (with_records (put (record_of k id None x) s.records) s), Number (length (with_key k ks)))
            unfolding step write_at write_in write_if
            write_done o = rw (e, h, le-ltb id s.fence l, a, c, o) refl
