-- What the reference step gives on each way through read.
use Rattle.std.proofs.Common.{◌≡◌, ℕ, ◌<◌, ◌≤◌, List, [], Some, None, refl}
use Rattle.std.proofs.lemmas.Bool.{lt-ltb, le-ltb}
use Rattle.model.specs.declared.words.Record.{Record}
use Rattle.model.specs.declared.words.Phase.{Phase}
use Rattle.model.specs.declared.words.Phase.TheVariants.{Open, Validated, Settled}
use Rattle.model.specs.declared.refusal.Refusal.TheVariants.{NoRow, WrongPhase, BelowFloor}
use Rattle.model.specs.declared.call.Call.TheVariants.{Read}
use Rattle.model.specs.declared.call.Answer.TheVariants.{Denied}
use Rattle.model.specs.Maps.{look_up}
use Rattle.model.specs.Records.{record_at}
use Rattle.model.specs.Versions.{versions_down}
use Rattle.model.specs.Transactions.{transaction}
use Rattle.model.specs.State.{State}
use Rattle.model.specs.Reading.{found, walk, read_at, read_in, read_if}
use Rattle.model.specs.Step.{step}

module _ {V : Type 0} (s : State V) (id k : ℕ) where
  pub read_no_row : look_up s.rows id ≡ None → step s (Read id k) ≡ (s, Denied (NoRow id))
  unfolding step read_at
  read_no_row e = rw e refl

  module _ (p : Phase) (ks : List ℕ) (n : ℕ) (e : look_up s.rows id ≡ Some (transaction p ks n)) where
    pub read_phase : (p ≡ Open → ⊥) → step s (Read id k) ≡ (s, Denied (WrongPhase id))
    unfolding step read_at read_in
    read_phase h = rw e (go p h)
      where
        go : (q : Phase) → (q ≡ Open → ⊥) → read_in id k s q ≡ (s, Denied (WrongPhase id))
        go Open h = absurd (h refl)
        go (Validated c) h = refl
        go (Settled c) h = refl

    module _ (h : p ≡ Open) where
      pub read_below : id < s.floor → step s (Read id k) ≡ (s, Denied (BelowFloor s.floor))
      unfolding step read_at read_in read_if
      read_below l = rw (e, h, lt-ltb id s.floor l) refl

      module _ (l : s.floor ≤ id) where
        pub read_own : (r : Record V) → record_at s.records k id ≡ Some r → step s (Read id k) ≡ found id k s (Some r.value)
        unfolding step read_at read_in read_if
        read_own r o = rw (e, h, le-ltb id s.floor l, o) refl

        pub read_walk : record_at s.records k id ≡ None → step s (Read id k) ≡ walk id k (versions_down s.records k id []) s
        unfolding step read_at read_in read_if
        read_walk o = rw (e, h, le-ltb id s.floor l, o) refl
