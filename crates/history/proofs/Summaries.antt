-- What a past says with what only the proof needs: the ids begun, and of a commit whether it was fast and the version at which its records stand.
use Rattle.std.proofs.Common.{◌≡◌, ℕ, ◌<◌, ◌≤◌, min, Bool, true, false, List, [], ◌∷◌, Some, None, Option, refl, ap, ◌∙◌, subst, inl, inr}
use Rattle.history.specs.Past.{answered, Past, Effect, began, wrote, read_answered, settled_at, fast_committed, no_effect, effect, AnsweredRead, In, only, with_write}
use Rattle.history.specs.Past.{Commit as Plain, Summary as Bare}
use Rattle.history.specs.Past as past
use Rattle.history.specs.Law.{Ordered as PlainOrdered, Apart as PlainApart}

-- a commit: its start, its number and what it wrote to each key; `fast` if a fast write or change made it, and the version at which its records stand
pub record Commit (V : Type 0) : Type 0 where
  pub start : ℕ
  pub number : ℕ
  pub values : ℕ → Option V
  pub fast : Bool
  pub version : ℕ

-- what a past says; the newest stands first in each list
pub record Summary (V : Type 0) : Type 0 where
  pub ids : List ℕ
  pub writes : ℕ → ℕ → Option V
  pub commits : List (Commit V)
  pub reads : List (AnsweredRead V)

module _ {V : Type 0} where
  -- a settle's commit: the id's last write of each key
  abbrev pub settled_commit : ℕ → ℕ → (ℕ → Option V) → Commit V
  settled_commit id c w = record { start = id; number = c; values = w; fast = false; version = id }

  -- a fast commit: one value, and for start the lesser of its number and n
  abbrev pub fast_commit : ℕ → ℕ → ℕ → V → Commit V
  fast_commit n f k x = record { start = min n f; number = f; values = only k x; fast = true; version = f }

  abbrev pub with_effect : Effect V → Summary V → Summary V
  with_effect (began i) h = record { ids = i ∷ h.ids; writes = h.writes; commits = h.commits; reads = h.reads }
  with_effect (wrote i k x) h = record { ids = h.ids; writes = with_write i k x h.writes; commits = h.commits; reads = h.reads }
  with_effect (read_answered i k o) h = record { ids = h.ids; writes = h.writes; commits = h.commits; reads = record { id = i; key = k; own = h.writes i k; answer = o } ∷ h.reads }
  with_effect (settled_at i c) h = record { ids = h.ids; writes = h.writes; commits = settled_commit i c (h.writes i) ∷ h.commits; reads = h.reads }
  with_effect (fast_committed n f k x) h = record { ids = h.ids; writes = h.writes; commits = fast_commit n f k x ∷ h.commits; reads = h.reads }
  with_effect no_effect h = h

  abbrev pub empty_summary : Summary V
  empty_summary = record { ids = []; writes = λ i k. None; commits = []; reads = [] }

  -- what h and then the events say
  abbrev pub summary_from : Summary V → Past V → Summary V
  summary_from h [] = h
  summary_from h (answered c a ∷ p) = summary_from (with_effect (effect c a) h) p

module _ {V : Type 0} where
  -- where both wrote a key, the numbers differ, and the lower number is at most the other's start
  abbrev pub Apart : Commit V → Commit V → Type 0
  Apart c d = (k : ℕ) (x y : V) → c.values k ≡ Some x → d.values k ≡ Some y
      → (c.number ≡ d.number → ⊥) × (c.number < d.number → c.number ≤ d.start) × (d.number < c.number → d.number ≤ c.start)

  abbrev pub Ordered : List (Commit V) → Type 0
  Ordered [] = Unit {0}
  Ordered (c ∷ cs) = ((d : Commit V) → In d cs → Apart c d) × Ordered cs

  -- the same without what only the proof needs
  abbrev pub plain : Commit V → Plain V
  plain c = record { start = c.start; number = c.number; values = c.values }

  abbrev pub plains : List (Commit V) → List (Plain V)
  plains [] = []
  plains (c ∷ cs) = plain c ∷ plains cs

  abbrev pub bare : Summary V → Bare V
  bare h = record { writes = h.writes; commits = plains h.commits; reads = h.reads }

  effect_same : (e : Effect V) (h : Summary V) → past.with_effect e (bare h) ≡ bare (with_effect e h)
  effect_same (began i) h = refl
  effect_same (wrote i k x) h = refl
  effect_same (read_answered i k o) h = refl
  effect_same (settled_at i c) h = refl
  effect_same (fast_committed n f k x) h = refl
  effect_same no_effect h = refl

  pub summary_is : (p : Past V) (h : Summary V) → past.summary_from (bare h) p ≡ bare (summary_from h p)
  summary_is [] h = refl
  summary_is (answered c a ∷ p) h = ap (λ b. past.summary_from b p) (effect_same (effect c a) h) ∙ summary_is p (with_effect (effect c a) h)

  -- a plain commit comes from a commit
  pub record From (cs : List (Commit V)) (d : Plain V) : Type 0 where
    pub commit : Commit V
    pub among : In commit cs
    pub same : plain commit ≡ d

  pub from : (cs : List (Commit V)) (d : Plain V) → In d (plains cs) → From cs d
  from [] d m = absurd m
  from (c ∷ cs) d (inl e) = record { commit = c; among = inl refl; same = e }
  from (c ∷ cs) d (inr m) = let F = from cs d m in record { commit = F.commit; among = inr F.among; same = F.same }

  pub in_plains : (cs : List (Commit V)) (c : Commit V) → In c cs → In (plain c) (plains cs)
  in_plains [] c m = absurd m
  in_plains (d ∷ cs) c (inl e) = inl (ap plain e)
  in_plains (d ∷ cs) c (inr m) = inr (in_plains cs c m)

  pub ordered_plains : (cs : List (Commit V)) → Ordered cs → PlainOrdered (plains cs)
  ordered_plains [] O = tt
  ordered_plains (c ∷ cs) O = (λ d m. let F = from cs d m in subst (PlainApart (plain c)) F.same (O.0 F.commit F.among), ordered_plains cs O.1)
