-- Fast calls: one key, no transaction. A fast change is denied where the key has a number above the one its caller saw.
use Rattle.std.specs.Prelude.{ℕ, suc, ◌%◌, Bool, true, false, Some, ◌==◌, nat_lt}
use Rattle.model.specs.declared.refusal.Refusal.TheVariants.{KeyPending, ConflictAtEngine, ClassSpent, StoreFull}
use Rattle.model.specs.declared.call.Answer.{Answer}
use Rattle.model.specs.declared.call.Answer.TheVariants.{Number, Newest}
use Rattle.model.specs.Numbers.{U}
use Rattle.model.specs.Classes.{class_number}
use Rattle.model.specs.Records.{record_of, put}
use Rattle.model.specs.Versions.{has_pending, greatest_stamped}
use Rattle.model.specs.State.{State, deny, with_records, raise_class_of}
use Rattle.model.specs.Stamping.{record_refused}

module _ {V : Type 0} where
  -- the greatest stamped number of the key and its value, or 0 and nothing
  abbrev pub fast_read : ℕ → State V → State V × Answer V
  fast_read k s = (s, Newest (greatest_stamped k s.records).0 (greatest_stamped k s.records).1)

  -- the number is f, the next of the class; the tests: a pending record; a greater number than was seen; f is a whole step, where transactions begin; the store is full
  unfoldable pub fast_if : ℕ → V → ℕ → State V → Bool → Bool → Bool → Bool → State V × Answer V
  fast_if k x f s true b c d = deny s (KeyPending k)
  fast_if k x f s false true c d = deny s (ConflictAtEngine k)
  fast_if k x f s false false true d = deny s (ClassSpent k)
  fast_if k x f s false false false true = deny s (StoreFull k)
  fast_if k x f s false false false false = (raise_class_of k f (with_records (put (record_of k f (Some f) x) s.records) s), Number f)

  unfoldable pub fast_change : ℕ → ℕ → V → State V → State V × Answer V
  unfolding fast_if
  fast_change n k x s =
      let f : ℕ = suc (class_number s.classes k) in
      fast_if k x f s (has_pending k s.records) (nat_lt n (greatest_stamped k s.records).0) (f % U == 0) (record_refused k f s)
