-- Opening within its limits, and outside them.
use Rattle.std.proofs.Common.{◌≡◌, ℕ, Bool, true, false, cond, ◌&&◌, eqb, Some, None, Ok, Err, Option, refl, ◌∙◌, arith}
use Rattle.std.proofs.lemmas.Bool.{and_left, and_right, eq-eqb, ne_eqb}
use Rattle.model.specs.declared.refusal.Refusal.TheVariants.{OutsideLimits}
use Rattle.model.specs.declared.call.Opening.{Opening}
use Rattle.model.specs.Numbers.{last_step, from_1_to}
use Rattle.model.specs.State.{within, fresh, opened}
use Rattle.engine.specs.Meaning.{places_fit}

module _ {X : Type 0} where
  pub none_from : (b : Bool) (x : X) → ◌≡◌ {A = Option X} None (cond b (Some x) None) → b ≡ false
  none_from true x e = absurd (let z : ◌≡◌ {A = ℕ} 0 1 = cc in omega arith)
  none_from false x e = refl

  pub true_from : (b : Bool) (x y : X) → ◌≡◌ {A = Option X} (Some x) (cond b (Some y) None) → b ≡ true
  true_from true x y e = refl
  true_from false x y e = absurd (let z : ◌≡◌ {A = ℕ} 0 1 = cc in omega arith)

  pub some_from : (b : Bool) (x y : X) → ◌≡◌ {A = Option X} (Some x) (cond b (Some y) None) → x ≡ y
  some_from true x y e = cc
  some_from false x y e = absurd (let z : ◌≡◌ {A = ℕ} 0 1 = cc in omega arith)

abbrev places : Opening → Bool
places z = places_fit z

abbrev steps : Opening → Bool
steps z = from_1_to last_step z.first && from_1_to 4096 z.span

-- the limits of the steps, of the places, and the two that are to be empty
abbrev limits : Opening → ℕ → ℕ → Bool
limits z m n = steps z && (places z && (eqb m 0 && eqb n 0))

regroup : (a b c d : Bool) → ((a && (b && c)) && d) ≡ ((a && b) && (c && d))
regroup true true c d = refl
regroup true false c d = refl
regroup false b c d = refl

module _ (z : Opening) (m n : ℕ) where
  is_limits : (within z && (eqb m 0 && eqb n 0)) ≡ limits z m n
  unfolding within
  is_limits = regroup (from_1_to last_step z.first) (from_1_to 4096 z.span) (places_fit z) (eqb m 0 && eqb n 0)

module _ {V : Type 0} (z : Opening) (m n : ℕ) where
  outside : limits z m n ≡ false → opened {V = V} z m n ≡ Err OutsideLimits
  unfolding opened
  outside e = rw (is_limits z m n ∙ e) refl

  pub outside_steps : steps z ≡ false → opened {V = V} z m n ≡ Err OutsideLimits
  outside_steps e = outside (and_left (steps z) (places z && (eqb m 0 && eqb n 0)) e)

  pub outside_places : places z ≡ false → opened {V = V} z m n ≡ Err OutsideLimits
  outside_places e = outside (and_right (steps z) (places z && (eqb m 0 && eqb n 0)) (and_left (places z) (eqb m 0 && eqb n 0) e))

  pub outside_records : (m ≡ 0 → ⊥) → opened {V = V} z m n ≡ Err OutsideLimits
  outside_records e = outside (and_right (steps z) (places z && (eqb m 0 && eqb n 0)) (and_right (places z) (eqb m 0 && eqb n 0) (and_left (eqb m 0) (eqb n 0) (ne_eqb m 0 e))))

  pub outside_entries : (n ≡ 0 → ⊥) → opened {V = V} z m n ≡ Err OutsideLimits
  outside_entries e = outside (and_right (steps z) (places z && (eqb m 0 && eqb n 0)) (and_right (places z) (eqb m 0 && eqb n 0) (and_right (eqb m 0) (eqb n 0) (ne_eqb n 0 e))))

  pub inside : steps z ≡ true → places z ≡ true → m ≡ 0 → n ≡ 0 → opened {V = V} z m n ≡ Ok (fresh z)
  unfolding opened
  inside a b c d = rw (is_limits z m n, a, b, eq-eqb m 0 c, eq-eqb n 0 d) refl
