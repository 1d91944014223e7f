-- One turn of each walk down the versions of a key, as code meets it: it asks for the newest record up to a bound, deals with it, and goes on
-- below its version.
use Rattle.std.proofs.Common.{◌≡◌, ℕ, max, false, ◌||◌, List, [], Some, None, Option, refl, ap, ◌∙◌}
use Rattle.model.specs.declared.words.Record.{Record}
use Rattle.model.specs.Maps.{look_up}
use Rattle.model.specs.Records.{Ascending, newest}
use Rattle.model.specs.Versions.{versions_down, is_pending, pending_among, greater_of, greater_record, greatest_among, number_below, greater_below, greatest_below_among, number_under}
use Rattle.model.specs.State.{State}
use Rattle.model.specs.Reading.{found, judge_rec, judge, walk}
use Rattle.model.specs.Sweeping.{sweep_number, sweep_rec, sweep_down, drop_low, low_under, sweep_under}
use Rattle.model.proofs.Newest.{under, newest_none, newest_some, newest_at}

module _ {V : Type 0} where
  -- a read
  pub walk_end : (id k b : ℕ) (s : State V) → newest k b s.records ≡ None → walk id k (versions_down s.records k b []) s ≡ found id k s None
  unfolding walk
  walk_end id k b s e = rw (newest_none s.records k b [] e) refl

  pub walk_turn : (id k b : ℕ) (s : State V) (r : Record V) → Ascending s.records → newest k b s.records ≡ Some r
      → walk id k (versions_down s.records k b []) s ≡ judge_rec id k r.version s r.number r.value (look_up s.entries r.version) (walk id k (under s.records k r.version []))
  unfolding walk judge
  walk_turn id k b s r A e = rw (newest_some s.records k b r [] A e) (rw (newest_at s.records k b r A e) refl)

  -- the search for a pending record
  pub pending_end : (l : List (Record V)) (k b : ℕ) → newest k b l ≡ None → pending_among l k (versions_down l k b []) ≡ false
  unfolding pending_among
  pending_end l k b e = rw (newest_none l k b [] e) refl

  pub pending_turn : (l : List (Record V)) (k b : ℕ) (r : Record V) → Ascending l → newest k b l ≡ Some r → pending_among l k (versions_down l k b []) ≡ (is_pending r.number || pending_among l k (under l k r.version []))
  unfolding pending_among
  pending_turn l k b r A e = rw (newest_some l k b r [] A e) (rw (newest_at l k b r A e) refl)

  -- the greatest stamped number
  pub top_end : (l : List (Record V)) (k b : ℕ) (p : ℕ × Option V) → newest k b l ≡ None → greatest_among l k (versions_down l k b []) p ≡ p
  unfolding greatest_among
  top_end l k b p e = rw (newest_none l k b [] e) refl

  pub top_turn : (l : List (Record V)) (k b : ℕ) (p : ℕ × Option V) (r : Record V) → Ascending l → newest k b l ≡ Some r → greatest_among l k (versions_down l k b []) p ≡ greatest_among l k (under l k r.version []) (greater_of r.number r.value p)
  unfolding greatest_among
  top_turn l k b p r A e = ap (λ vs. greatest_among l k vs p) (newest_some l k b r [] A e) ∙ ap (λ o. greatest_among l k (under l k r.version []) (greater_record o p)) (newest_at l k b r A e)

  -- the greatest stamped number below a floor
  pub low_end : (l : List (Record V)) (k fl b m : ℕ) → newest k b l ≡ None → greatest_below_among l k fl (versions_down l k b []) m ≡ m
  unfolding greatest_below_among
  low_end l k fl b m e = rw (newest_none l k b [] e) refl

  pub low_turn : (l : List (Record V)) (k fl b m : ℕ) (r : Record V) → Ascending l → newest k b l ≡ Some r → greatest_below_among l k fl (versions_down l k b []) m ≡ greatest_below_among l k fl (under l k r.version []) (max (number_below fl r.number) m)
  unfolding greatest_below_among
  low_turn l k fl b m r A e = ap (λ vs. greatest_below_among l k fl vs m) (newest_some l k b r [] A e) ∙ ap (λ o. greatest_below_among l k fl (under l k r.version []) (greater_below fl o m)) (newest_at l k b r A e)

  -- a sweep's two walks
  pub sweep_end : (k b n : ℕ) (s : State V) → newest k b s.records ≡ None → sweep_down k (versions_down s.records k b []) s n ≡ (s, n)
  unfolding sweep_down
  sweep_end k b n s e = rw (newest_none s.records k b [] e) refl

  pub sweep_turn : (k b n : ℕ) (s : State V) (r : Record V) → Ascending s.records → newest k b s.records ≡ Some r
      → sweep_down k (versions_down s.records k b []) s n ≡ sweep_down k (under s.records k r.version []) (sweep_number k r.version s n r.number).0 (sweep_number k r.version s n r.number).1
  unfolding sweep_down
  sweep_turn k b n s r A e = ap (λ vs. sweep_down k vs s n) (newest_some s.records k b r [] A e)
      ∙ ap (λ o. sweep_down k (under s.records k r.version []) (sweep_rec k r.version s n o).0 (sweep_rec k r.version s n o).1) (newest_at s.records k b r A e)

  pub under_end : (k m b n : ℕ) (s : State V) → newest k b s.records ≡ None → sweep_under k m (versions_down s.records k b []) s n ≡ (s, n)
  unfolding sweep_under
  under_end k m b n s e = rw (newest_none s.records k b [] e) refl

  pub under_turn : (k m b n : ℕ) (s : State V) (r : Record V) → Ascending s.records → newest k b s.records ≡ Some r
      → sweep_under k m (versions_down s.records k b []) s n ≡ sweep_under k m (under s.records k r.version []) (drop_low k r.version s n (number_under m r.number)).0 (drop_low k r.version s n (number_under m r.number)).1
  unfolding sweep_under
  under_turn k m b n s r A e = ap (λ vs. sweep_under k m vs s n) (newest_some s.records k b r [] A e)
      ∙ ap (λ o. sweep_under k m (under s.records k r.version []) (drop_low k r.version s n (low_under m o)).0 (drop_low k r.version s n (low_under m o)).1) (newest_at s.records k b r A e)
