use Rattle.std.proofs.Common.{◌≡◌, ℕ, ◌≤◌, Some, None, sym, refl, inl, arith}
use Rattle.history.specs.Keys.{insert, in_order, apply, below}
use Rattle.history.specs.Refused.{Refused}
use Rattle.history.proofs.bad_pasts_refused.Goals as goal

nothing_found : {x : ℕ} → None ≡ Some x → ⊥
nothing_found e = let z : ◌≡◌ {A = ℕ} 0 1 = cc in omega arith

refused : Refused
unfolding insert in_order apply below
refused = record {
  passed = λ l. nothing_found (l.snapshots _ (inl refl));
  gone_early = λ l. nothing_found (l.snapshots _ (inl refl));
  under_commit = λ l. (let h : 1048577 ≤ 1048576 = (l.order.0 _ (inl refl) 7 60 50 refl refl).1 (omega arith) in omega arith);
  swept = λ l. nothing_found (l.snapshots _ (inl refl));
  lost = λ l. (let h : 3145728 ≤ 2097152 = (l.order.0 _ (inl refl) 7 2 1 refl refl).2 (omega arith) in omega arith);
  at_start = λ l. nothing_found (sym (l.snapshots _ (inl refl)));
  own_missed = λ l. nothing_found (l.snapshots _ (inl refl));
  under_reader = λ l. nothing_found (l.snapshots _ (inl refl));
}

pub returns : goal.returns
returns c = refused
