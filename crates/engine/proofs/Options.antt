-- An option that is empty where a test denies.
use Rattle.std.proofs.Common.{◌≡◌, ℕ, Bool, true, false, cond, Some, None, Option, refl, arith}

module _ {X : Type 0} where
  pub none_unless : (b : Bool) (x : X) → ◌≡◌ {A = Option X} None (cond b None (Some x)) → b ≡ true
  none_unless true x e = refl
  none_unless false x e = absurd (let z : ◌≡◌ {A = ℕ} 0 1 = cc in omega arith)

  pub some_unless : (b : Bool) (x y : X) → ◌≡◌ {A = Option X} (Some y) (cond b None (Some x)) → (b ≡ false) × (x ≡ y)
  some_unless true x y e = absurd (let z : ◌≡◌ {A = ℕ} 0 1 = cc in omega arith)
  some_unless false x y e = (refl, cc)
