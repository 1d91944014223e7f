-- What every list of entries has in common with the map that it means.
use Rattle.std.specs.Prelude.{◌≡◌, ℕ, suc, ◌<◌, cond, ◌≢◌, List, [], ◌∷◌, length, Some, None, ◌==◌, slice_index_or}
use Rattle.std.proofs.Common.{arith, sym, ◌∙◌}
use Rattle.std.proofs.Math.Path.{refl, ap}
use Rattle.std.proofs.lemmas.Bool.{ne_eqb}
use Rattle.model.specs.Maps.{look_up, Rising}
use Rattle.model.proofs.Maps.{enter_rises}
use Rattle.model.proofs.Entering.{look_enter, length_enter_new}
use Rattle.strip.specs.Bodies.{arranged, Distinct}

module _ {X : Type 0} where
  -- no entry has the id q
  abbrev pub Apart : List (ℕ × X) → ℕ → Type 0
  Apart es q = (k : ℕ) (d : ℕ × X) → k < length es → (slice_index_or es k d).0 ≢ q

  pub look_none : (es : List (ℕ × X)) (q : ℕ) → Apart es q → look_up es q ≡ None
  unfolding look_up
  look_none [] q h = refl
  look_none (e ∷ es) q h = rw (ne_eqb q e.0 (λ z. h 0 e (omega arith) (sym z))) (look_none es q (λ k d l. h (suc k) d (omega arith)))

  pub arranged_rises : (es : List (ℕ × X)) → Rising (arranged es)
  arranged_rises [] = tt
  arranged_rises (e ∷ es) = enter_rises e.0 e.1 (arranged es) (arranged_rises es)

  pub look_arranged : (es : List (ℕ × X)) (q : ℕ) → look_up (arranged es) q ≡ look_up es q
  unfolding look_up
  look_arranged [] q = refl
  look_arranged (e ∷ es) q = look_enter e.0 e.1 (arranged es) q ∙ ap (λ o. cond (q == e.0) (Some e.1) o) (look_arranged es q)

  pub length_arranged : (es : List (ℕ × X)) → Distinct es → length (arranged es) ≡ length es
  length_arranged [] ne = refl
  length_arranged (e ∷ es) ne =
      let r = length_arranged es (λ i j d h. ne (suc i) (suc j) d (omega arith, omega arith, h.2)) in
      let n = length_enter_new e.0 e.1 (arranged es) (look_arranged es e.0 ∙ look_none es e.0 (λ k d l z. ne 0 (suc k) d (omega arith, omega arith, sym z))) in
      omega arith
