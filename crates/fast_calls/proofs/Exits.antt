-- What the reference step gives on each way through fast read, fast change and fast write.
use Rattle.std.proofs.Common.{◌≡◌, ℕ, suc, ◌%◌, true, false, eqb, ltb, Some, None, Option, refl}
use Rattle.model.specs.declared.refusal.Refusal.TheVariants.{KeyPending, ConflictAtEngine, ClassSpent, StoreFull}
use Rattle.model.specs.declared.call.Call.TheVariants.{FastRead, FastChange, FastWrite}
use Rattle.model.specs.declared.call.Answer.TheVariants.{Denied, Number, Newest}
use Rattle.model.specs.Numbers.{U, last_number}
use Rattle.model.specs.Classes.{class_number}
use Rattle.model.specs.Records.{record_of, put}
use Rattle.model.specs.Versions.{has_pending, greatest_stamped}
use Rattle.model.specs.State.{State, with_records, raise_class_of}
use Rattle.model.specs.Stamping.{record_refused}
use Rattle.model.specs.FastCalls.{fast_change, fast_if}
use Rattle.model.specs.Step.{step}
use Rattle.engine.proofs.Options.{none_unless, some_unless}
use Rattle.fast_calls.specs.Meaning.{next_number}

module _ {V : Type 0} (s : State V) (k : ℕ) where
  pub fast_read_done : (p : ℕ × Option V) → p ≡ greatest_stamped k s.records → (s, Newest p.0 p.1) ≡ step s (FastRead k)
  unfolding step
  fast_read_done p e = rw e refl

  module _ (n : ℕ) (x : V) where
    pub fast_pending : has_pending k s.records ≡ true → step s (FastChange n k x) ≡ (s, Denied (KeyPending k))
    unfolding step fast_change fast_if
    fast_pending e = rw e refl

    module _ (e : has_pending k s.records ≡ false) (p : ℕ × Option V) (g : p ≡ greatest_stamped k s.records) where
      greatest : (greatest_stamped k s.records).0 ≡ p.0
      greatest = rw g refl

      pub fast_conflict : ltb n p.0 ≡ true → step s (FastChange n k x) ≡ (s, Denied (ConflictAtEngine k))
      unfolding step fast_change fast_if
      fast_conflict l = rw (e, greatest, l) refl

      module _ (l : ltb n p.0 ≡ false) where
        pub fast_spent : None ≡ next_number (class_number s.classes k) → step s (FastChange n k x) ≡ (s, Denied (ClassSpent k))
        unfolding step fast_change fast_if
        fast_spent m = let f : ℕ = suc (class_number s.classes k) in rw (e, greatest, l, none_unless (eqb (f % U) 0) f m) refl

        module _ (f : ℕ) (m : Some f ≡ next_number (class_number s.classes k)) where
          next : (eqb (suc (class_number s.classes k) % U) 0 ≡ false) × (suc (class_number s.classes k) ≡ f)
          next = some_unless (eqb (suc (class_number s.classes k) % U) 0) (suc (class_number s.classes k)) f m

          pub fast_full : record_refused k f s ≡ true → step s (FastChange n k x) ≡ (s, Denied (StoreFull k))
          unfolding step fast_change fast_if
          fast_full o = rw (e, greatest, l, next.0, next.1, o) refl

          pub fast_done : record_refused k f s ≡ false → step s (FastChange n k x) ≡ (raise_class_of k f (with_records (put (record_of k f (Some f) x) s.records) s), Number f)
          unfolding step fast_change fast_if
          fast_done o = rw (e, greatest, l, next.0, next.1, o) refl

  -- a fast write is a fast change that saw everything
  pub fast_write_is : (x : V) → step s (FastChange last_number k x) ≡ step s (FastWrite k x)
  unfolding step
  fast_write_is x = refl
