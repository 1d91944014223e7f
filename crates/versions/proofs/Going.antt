-- Going down the versions of a key record by record, as a loop does that has met a record, or nothing, and asks for the next lower.
-- Assumes nothing.
use Rattle.std.proofs.Common.{◌≡◌, ℕ, zero, suc, ◌<◌, ◌≤◌, max, Bool, true, false, ◌||◌, List, [], ◌∷◌, Some, None, Option, refl, ap, ◌∙◌, subst, arith}
use Rattle.model.specs.declared.words.Record.{Record}
use Rattle.model.specs.Records.{Ascending, record_at, newest}
use Rattle.model.specs.Versions.{versions_down, is_pending, pending_among, greater_of, greater_record, greatest_among, number_below, greater_below, greatest_below_among}
use Rattle.model.proofs.Newest.{under, newest_none, newest_is, newest_at, newest_some}
use Rattle.versions.specs.Down.{older}

module _ {V : Type 0} where
  -- the versions of k from what was met on down
  abbrev pub from : List (Record V) → ℕ → Option (Record V) → List ℕ
  from l k None = []
  from l k (Some r) = r.version ∷ under l k r.version []

  -- what was met stands where it says
  abbrev pub Met : List (Record V) → ℕ → Option (Record V) → Type 0
  Met l k None = Unit {0}
  Met l k (Some r) = record_at l k r.version ≡ Some r

  -- how far there is to go
  abbrev pub height : Option (Record V) → ℕ
  height None = 0
  height (Some r) = suc r.version

  pub met_first : (l : List (Record V)) (k b : ℕ) (o : Option (Record V)) → Ascending l → newest k b l ≡ o → Met l k o
  met_first l k b None A e = tt
  met_first l k b (Some r) A e = newest_at l k b r A e

  pub from_first : (l : List (Record V)) (k b : ℕ) (o : Option (Record V)) → Ascending l → newest k b l ≡ o → versions_down l k b [] ≡ from l k o
  from_first l k b None A e = newest_none l k b [] e
  from_first l k b (Some r) A e = newest_some l k b r [] A e

  pub height_first : (l : List (Record V)) (k b : ℕ) (o : Option (Record V)) → newest k b l ≡ o → height o ≤ suc b
  height_first l k b None e = omega arith
  height_first l k b (Some r) e = let p = newest_is l k b r e in omega arith

  pub met_next : (l : List (Record V)) (k v : ℕ) (o : Option (Record V)) → Ascending l → older k v l ≡ o → Met l k o
  met_next l k zero None A e = tt
  met_next l k zero (Some r) A e = absurd (grind arith)
  met_next l k (suc b) o A e = met_first l k b o A e

  pub from_next : (l : List (Record V)) (k v : ℕ) (o : Option (Record V)) → Ascending l → older k v l ≡ o → under l k v [] ≡ from l k o
  from_next l k zero None A e = refl
  from_next l k zero (Some r) A e = absurd (grind arith)
  from_next l k (suc b) o A e = from_first l k b o A e

  pub height_next : (l : List (Record V)) (k v : ℕ) (o : Option (Record V)) → older k v l ≡ o → height o ≤ v
  height_next l k zero None e = omega arith
  height_next l k zero (Some r) e = absurd (grind arith)
  height_next l k (suc b) o e = height_first l k b o e

  -- two lists with the same versions of k below v
  pub under_same : (l m : List (Record V)) (k v : ℕ) → ((b : ℕ) → b < v → versions_down l k b [] ≡ versions_down m k b []) → under l k v [] ≡ under m k v []
  under_same l m k zero h = refl
  under_same l m k (suc b) h = h b (omega arith)

  pub height_less : (l : List (Record V)) (k : ℕ) (n : Option (Record V)) (r : Record V) (o : Option (Record V)) → n ≡ Some r → older k r.version l ≡ o → height o < height n
  height_less l k n r o i e = let h : height o ≤ r.version = height_next l k r.version o e in rw i (omega arith)

  -- a turn of each loop: r was met in n, and o is the next
  module _ (l : List (Record V)) (k : ℕ) (n : Option (Record V)) (r : Record V) (o : Option (Record V)) (A : Ascending l) (M : Met l k n) (i : n ≡ Some r) (e : older k r.version l ≡ o) where
    pub met_at : record_at l k r.version ≡ Some r
    met_at = subst (λ (x : Option (Record V)). Met l k x) i M

    pub pending_more : (p : Bool) → (p || pending_among l k (from l k n)) ≡ ((p || is_pending r.number) || pending_among l k (from l k o))
    unfolding pending_among
    pending_more true = refl
    pending_more false = rw i (rw (met_at, from_next l k r.version o A e) refl)

    pub greatest_more : (p : ℕ × Option V) → greatest_among l k (from l k n) p ≡ greatest_among l k (from l k o) (greater_of r.number r.value p)
    unfolding greatest_among
    greatest_more p =
        ap (λ (x : Option (Record V)). greatest_among l k (from l k x) p) i
        ∙ (ap (λ x. greatest_among l k (under l k r.version []) (greater_record x p)) met_at
        ∙ ap (λ vs. greatest_among l k vs (greater_of r.number r.value p)) (from_next l k r.version o A e))

    pub below_more : (fl m : ℕ) → greatest_below_among l k fl (from l k n) m ≡ greatest_below_among l k fl (from l k o) (max (number_below fl r.number) m)
    unfolding greatest_below_among
    below_more fl m =
        ap (λ (x : Option (Record V)). greatest_below_among l k fl (from l k x) m) i
        ∙ (ap (λ x. greatest_below_among l k fl (under l k r.version []) (greater_below fl x m)) met_at
        ∙ ap (λ vs. greatest_below_among l k fl vs (max (number_below fl r.number) m)) (from_next l k r.version o A e))

  -- the end of each loop
  module _ (l : List (Record V)) (k : ℕ) (n : Option (Record V)) (i : n ≡ None) where
    pub pending_all : (p : Bool) → (p || pending_among l k (from l k n)) ≡ p
    unfolding pending_among
    pending_all true = refl
    pending_all false = rw i refl

    pub greatest_all : (p : ℕ × Option V) → greatest_among l k (from l k n) p ≡ p
    unfolding greatest_among
    greatest_all p = rw i refl

    pub below_all : (fl m : ℕ) → greatest_below_among l k fl (from l k n) m ≡ m
    unfolding greatest_below_among
    below_all fl m = rw i refl
