-- The entries that bytes begin with, one step on and at a place.
use Rattle.std.proofs.Common.{◌≡◌, ℕ, zero, suc, ◌+◌, ◌*◌, ◌-◌, ◌/◌, ◌<◌, ◌≤◌, List, ◌∷◌, length, get_or, take, drop, Some, None, Option, sym, refl, ap, ◌∙◌, arith}
use Rattle.std.specs.Option.{option_map}
use Rattle.std.proofs.lemmas.Bool.Decides.{nat_tests}
use Rattle.std.proofs.lemmas.List.{length-drop, get_or-take, drop-drop, take_rest}
use Rattle.strip.specs.Bodies.{later, place_of}
use Rattle.strip.specs.Layout.{IdEntry, read_8, read_entry, read_body}

read_8_take : (bs : List ℕ) → read_8 (take 24 bs) ≡ read_8 bs
read_8_take bs = grind (arith, get_or-take)

body_step : (bs : List ℕ) → 24 ≤ length bs → read_body (length bs / 24) bs ≡ read_entry bs ∷ read_body (length (drop 24 bs) / 24) (drop 24 bs)
body_step bs le =
    let l = length-drop 24 bs in
    let e : length bs / 24 ≡ suc (length (drop 24 bs) / 24) = omega arith in
    ap (λ n. read_body n bs) e

-- a walk over the entries of the body has k of them behind it, and the rest before it
pub record Walked (body rest : List ℕ) (id k : ℕ) : Type 0 where
  pub behind : 24 * k + length rest ≡ length body
  pub ahead : place_of (read_body (length body / 24) body) id ≡ option_map (λ p. k + p) (place_of (read_body (length rest / 24) rest) id)

from_later : (k : ℕ) (o : Option ℕ) → option_map (λ p. k + p) (later o) ≡ option_map (λ p. (k + 1) + p) o
from_later k None = refl
from_later k (Some p) = let e : k + (p + 1) ≡ (k + 1) + p = omega arith in ap Some e

module _ (body rest first after : List ℕ) (id k n : ℕ) (w : Walked body rest id k) (f : first ≡ take 24 rest) (a : after ≡ drop 24 rest) (long : length after + 24 ≡ length rest) (is : n ≡ read_8 first) where
  at_first : n ≡ read_8 rest
  at_first = is ∙ ap read_8 f ∙ read_8_take rest

  pub walk_finds : n ≡ id → place_of (read_body (length body / 24) body) id ≡ Some ((length body - length rest) / 24)
  walk_finds e =
      let s = body_step rest (omega arith) in
      let i = at_first in
      let p : place_of (read_body (length rest / 24) rest) id ≡ Some 0 = grind (arith, nat_tests) in
      let g : k + 0 ≡ (length body - length rest) / 24 = omega (arith, w.behind) in
      w.ahead ∙ ap (option_map (λ p. k + p)) p ∙ ap Some g

  pub walk_goes_on : (n ≡ id → ⊥) → Walked body after id (k + 1)
  walk_goes_on e =
      let s = body_step rest (omega arith) in
      let i = at_first in
      let p : place_of (read_body (length rest / 24) rest) id ≡ later (place_of (read_body (length (drop 24 rest) / 24) (drop 24 rest)) id) = grind (arith, nat_tests) in
      let q = ap (λ r. later (place_of (read_body (length r / 24) r) id)) (sym a) in
      record { behind = omega (arith, w.behind); ahead = w.ahead ∙ ap (option_map (λ p. k + p)) (p ∙ q) ∙ from_later k _ }

entry_at : (n p : ℕ) (bs : List ℕ) (d : IdEntry) → p < n → get_or (read_body n bs) p d ≡ read_entry (drop (24 * p) bs)
entry_at zero p bs d l = absurd (omega arith)
entry_at (suc n) zero bs d l = refl
entry_at (suc n) (suc p) bs d l = let k : 24 + 24 * p ≡ 24 * suc p = omega arith in entry_at n p (drop 24 bs) d (omega arith) ∙ ap read_entry (drop-drop (24 * p) 24 bs ∙ ap (λ i. drop i bs) k)

-- the entry at a place, read at its offset after the header
pub entry_after : (n p at : ℕ) (bs : List ℕ) (d : IdEntry) → p < n → at ≡ 16 + 24 * p → read_entry (take (length bs - at) (drop at bs)) ≡ get_or (read_body n (drop 16 bs)) p d
entry_after n p at bs d l e = ap read_entry (take_rest bs at ∙ ap (λ i. drop i bs) e ∙ sym (drop-drop (24 * p) 16 bs)) ∙ sym (entry_at n p (drop 16 bs) d l)
