-- The two seats as a map.
use Rattle.std.proofs.Common.{◌≡◌, ℕ, ◌≤◌, true, false, cond, eqb, ◌⊎◌, List, [], ◌∷◌, ◌++◌, Some, None, Option, unwrap_or, sym, refl, ◌∙◌, inl, inr, ⊎_elim, arith}
use Rattle.std.proofs.lemmas.Bool.{cases_eq}
use Rattle.std.proofs.lemmas.Bool.Decides.{nat_tests}
use Rattle.model.specs.Maps.{is_there, look_up, enter}
use Rattle.model.specs.Managers.{Seat}
use Rattle.model.specs.Managing.{charge_clock, clock_of}
use Rattle.manager.specs.declared.managers.Steps.{Steps}
use Rattle.manager.specs.Conflicts.{Conflicts, entries_at, with_entries}
use Rattle.manager.specs.Meaning.{Numbers, Counts, counting, no_steps, manager_by, seated, taken, seats, seat_at, manager_at, standing_at, clock_taken, clock_at, clock_in_charge}

-- a seat as a map has it
abbrev seat_in : Option Steps → ℕ → List (ℕ × ℕ) → Option Seat
seat_in None l t = None
seat_in (Some s) l t = Some (seated (counting s l) t)

module _ (k l : ℕ) (a b : List (ℕ × ℕ)) where
  look_seats : (m n : Option Steps) (q : ℕ) → look_up (taken 0 m k a ++ taken 1 n l b) q ≡ cond (eqb q 0) (seat_in m k a) (cond (eqb q 1) (seat_in n l b) None)
  unfolding look_up
  look_seats None None q = grind (arith, nat_tests)
  look_seats None (Some n) q = grind (arith, nat_tests)
  look_seats (Some m) None q = grind (arith, nat_tests)
  look_seats (Some m) (Some n) q = refl

  enter_seat0 : (m n : Option Steps) (x : List (ℕ × ℕ)) (u : Counts) → enter 0 (seated u x) (taken 0 m k a ++ taken 1 n l b) ≡ (0, seated u x) ∷ taken 1 n l b
  unfolding enter
  enter_seat0 None None x u = refl
  enter_seat0 None (Some n) x u = refl
  enter_seat0 (Some m) n x u = refl

  enter_seat1 : (m n : Option Steps) (x : List (ℕ × ℕ)) (u : Counts) → enter 1 (seated u x) (taken 0 m k a ++ taken 1 n l b) ≡ taken 0 m k a ++ (1, seated u x) ∷ []
  unfolding enter
  enter_seat1 None None x u = refl
  enter_seat1 None (Some n) x u = refl
  enter_seat1 (Some m) None x u = refl
  enter_seat1 (Some m) (Some n) x u = refl

clock_is : (o : Option Steps) (l : ℕ) (t : List (ℕ × ℕ)) → clock_of (seat_in o l t) ≡ clock_taken o
clock_is None l t = refl
clock_is (Some s) l t = refl

charge_at : (o : Option ℕ) (m n : Option Steps) (k l : ℕ) (a b : List (ℕ × ℕ)) → charge_clock o (taken 0 m k a ++ taken 1 n l b) ≡ clock_at o m n
charge_at None m n k l a b = refl
charge_at (Some q) m n k l a b = grind (arith, nat_tests, look_seats k l a b m n q, clock_is m k a, clock_is n l b)

-- the clock of the seat in charge
pub charge_is : (p : Numbers) (c : Conflicts) → charge_clock p.charge (seats p c) ≡ clock_in_charge p
charge_is p c = charge_at p.charge p.seat0.steps p.seat1.steps p.seat0.low p.seat1.low c.entries0 c.entries1

pub zero_or_one : (q : ℕ) → q ≤ 1 → (q ≡ 0) ⊎ (q ≡ 1)
zero_or_one q l = ⊎_elim (λ (h : q ≡ 0). inl h) (λ (h : q ≡ 0 → ⊥). inr (omega arith)) (cases_eq q 0)

there_taken : (o : Option Steps) (l : ℕ) (t : List (ℕ × ℕ)) → is_there o ≡ true → seat_in o l t ≡ Some (seated (counting (unwrap_or o no_steps) l) t)
there_taken None l t h = grind arith
there_taken (Some s) l t h = refl

there_vacant : (o : Option Steps) (l : ℕ) (t : List (ℕ × ℕ)) → is_there o ≡ false → seat_in o l t ≡ None
there_vacant None l t h = refl
there_vacant (Some s) l t h = grind arith

module _ (q : ℕ) (p : Numbers) (c : Conflicts) (l : q ≤ 1) where
  looks : look_up (seats p c) q ≡ seat_in (seat_at q p) (standing_at q p).low (entries_at q c)
  looks = look_seats p.seat0.low p.seat1.low c.entries0 c.entries1 p.seat0.steps p.seat1.steps q ∙ ⊎_elim (λ (e : q ≡ 0). rw e refl) (λ (e : q ≡ 1). rw e refl) (zero_or_one q l)

  pub look_taken : is_there (seat_at q p) ≡ true → look_up (seats p c) q ≡ Some (seated (manager_at q p) (entries_at q c))
  look_taken t = looks ∙ there_taken (seat_at q p) (standing_at q p).low (entries_at q c) t

  pub look_vacant : is_there (seat_at q p) ≡ false → look_up (seats p c) q ≡ None
  look_vacant t = looks ∙ there_vacant (seat_at q p) (standing_at q p).low (entries_at q c) t

  -- the manager that counts by u and the conflict entries x stand at the seat
  pub enter_seats : (u : Counts) (x : List (ℕ × ℕ)) (p' : Numbers) → p'.seat0 ≡ cond (eqb q 0) (manager_by u) p.seat0 → p'.seat1 ≡ cond (eqb q 0) p.seat1 (manager_by u) →
      seats p' (with_entries q x c) ≡ enter q (seated u x) (seats p c)
  enter_seats u x p' e f =
      ⊎_elim
      (λ (z : q ≡ 0). rw (e, f, z) (sym (enter_seat0 p.seat0.low p.seat1.low c.entries0 c.entries1 p.seat0.steps p.seat1.steps x u)))
      (λ (z : q ≡ 1). rw (e, f, z) (sym (enter_seat1 p.seat0.low p.seat1.low c.entries0 c.entries1 p.seat0.steps p.seat1.steps x u)))
      (zero_or_one q l)

-- where the conflict entries of the seat stay the same
pub same_entries : (q : ℕ) (c : Conflicts) → with_entries q (entries_at q c) c ≡ c
same_entries q c = grind (arith, nat_tests)
