-- States that agree in each part.
use Rattle.std.proofs.Common.{◌≡◌, ℕ, List, Option, refl}
use Rattle.model.specs.declared.words.Record.{Record}
use Rattle.model.specs.declared.words.CommitEntry.{CommitEntry}
use Rattle.model.specs.declared.call.Answer.{Answer}
use Rattle.model.specs.declared.call.Opening.{Opening}
use Rattle.model.specs.Transactions.{Transaction}
use Rattle.model.specs.Managers.{Seat}
use Rattle.model.specs.State.{State}

abbrev pub sizes : ℕ → ℕ → ℕ → ℕ → ℕ → ℕ → ℕ → Opening
sizes a b c d e f g = record { first = a; span = b; rows = c; conflicts0 = d; conflicts1 = e; records = f; entries = g }

pub same_sizes : (a b b' c c' d d' e e' f f' g g' : ℕ) → b ≡ b' → c ≡ c' → d ≡ d' → e ≡ e' → f ≡ f' → g ≡ g' → sizes a b c d e f g ≡ sizes a b' c' d' e' f' g'
same_sizes a b b' c c' d d' e e' f f' g g' o p q r s t = rw (o, p, q, r, s, t) refl

module _ {V : Type 0} where
  abbrev made : ℕ → ℕ → ℕ → List ℕ → List (ℕ × Seat) → Option ℕ → List (ℕ × Transaction) → List (Record V) → List (ℕ × CommitEntry) → Opening → State V
  made a b c d e f g h i j = record { cell = a; fence = b; floor = c; classes = d; seats = e; in_charge = f; rows = g; records = h; entries = i; opening = j }

  same_made : (a a' b b' c c' : ℕ) (d d' : List ℕ) (e e' : List (ℕ × Seat)) (f f' : Option ℕ) (g g' : List (ℕ × Transaction)) (h h' : List (Record V)) (i i' : List (ℕ × CommitEntry)) (j j' : Opening) (x x' : Answer V) →
      a ≡ a' → b ≡ b' → c ≡ c' → d ≡ d' → e ≡ e' → f ≡ f' → g ≡ g' → h ≡ h' → i ≡ i' → j ≡ j' → x ≡ x' →
      ◌≡◌ {A = State V × Answer V} (made a b c d e f g h i j, x) (made a' b' c' d' e' f' g' h' i' j', x')
  same_made a a' b b' c c' d d' e e' f f' g g' h h' i i' j j' x x' p1 p2 p3 p4 p5 p6 p7 p8 p9 p10 p11 = rw (p1, p2, p3, p4, p5, p6, p7, p8, p9, p10, p11) refl

  pub same : (s t : State V) (x y : Answer V) → s.cell ≡ t.cell → s.fence ≡ t.fence → s.floor ≡ t.floor → s.classes ≡ t.classes → s.seats ≡ t.seats → s.in_charge ≡ t.in_charge → s.rows ≡ t.rows → s.records ≡ t.records → s.entries ≡ t.entries → s.opening ≡ t.opening → x ≡ y →
      ◌≡◌ {A = State V × Answer V} (s, x) (t, y)
  same s t x y p1 p2 p3 p4 p5 p6 p7 p8 p9 p10 p11 = same_made _ _ _ _ _ _ _ _ _ _ _ _ _ _ _ _ _ _ _ _ _ _ p1 p2 p3 p4 p5 p6 p7 p8 p9 p10 p11
