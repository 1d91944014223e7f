-- One turn of a read's walk, and its end. Assumes nothing.
use Rattle.std.proofs.Common.{◌≡◌, ℕ, ◌<◌, Bool, true, false, cond, ltb, [], Some, None, Ok, Err, Option, Result, sym, refl, ap, ◌∙◌, subst}
use Rattle.model.specs.declared.words.Record.{Record}
use Rattle.model.specs.declared.words.CommitEntry.{CommitEntry}
use Rattle.model.specs.declared.words.CommitEntry.TheVariants.{Committed, Aborted}
use Rattle.model.specs.declared.refusal.Refusal.{Refusal}
use Rattle.model.specs.declared.call.Answer.{Answer}
use Rattle.model.specs.Maps.{look_up}
use Rattle.model.specs.Records.{Ascending, record_of, record_at}
use Rattle.model.specs.Versions.{versions_down}
use Rattle.model.specs.State.{State, deny}
use Rattle.model.specs.Stamping.{entry_refused, stamp_record}
use Rattle.model.specs.Reading.{found, judge_open, judge_rec, judge, walk}
use Rattle.model.proofs.Newest.{under}
use Rattle.versions.proofs.Going.{from, Met, from_next, under_same}
use Rattle.versions.specs.Down.{older}
use Rattle.walks.specs.Reading.{learn_open, learn, below_start, judged}

module _ {V : Type 0} where
  -- what comes after a record is judged: a refusal, a record found, or the walk goes on
  abbrev pub follow : ℕ → ℕ → (State V → State V × Answer V) → State V → Result (Option (Record V)) Refusal → State V × Answer V
  follow id k go s (Err w) = deny s w
  follow id k go s (Ok None) = go s
  follow id k go s (Ok (Some r)) = found id k s (Some r.value)

  number : (id k : ℕ) (r : Record V) (n : ℕ) (s : State V) (go : State V → State V × Answer V) (b : Bool)
      → cond b (found id k s (Some r.value)) (go s) ≡ follow id k go s (cond b (Ok (Some (record_of r.key r.version (Some n) r.value))) (Ok None))
  number id k r n s go true = refl
  number id k r n s go false = refl

  open_record : (id k : ℕ) (r : Record V) (s : State V) (go : State V → State V × Answer V) (a b : Bool)
      → judge_open r.version s a b go ≡ follow id k go (learn_open r.version s a b).0 (below_start id r (learn_open r.version s a b).1)
  unfolding judge_open
  open_record id k r s go true b = refl
  open_record id k r s go false true = refl
  open_record id k r s go false false = refl

  follows : (id k : ℕ) (r : Record V) (s : State V) (m : Option ℕ) (e : Option CommitEntry) (go : State V → State V × Answer V)
      → judge_rec id k r.version s m r.value e go ≡ follow id k go (learn k r.version s m e).0 (below_start id r (learn k r.version s m e).1)
  unfolding judge_rec judge_open
  follows id k r s (Some n) e go = number id k r n s go (ltb n id)
  follows id k r s None None go = open_record id k r s go (ltb r.version s.fence) (entry_refused s)
  follows id k r s None (Some Aborted) go = refl
  follows id k r s None (Some (Committed n)) go = number id k r n (stamp_record k r.version n s) go (ltb n id)

  -- a turn: r was met in n
  pub walk_more : (id k : ℕ) (s : State V) (n : Option (Record V)) (r : Record V) → Met s.records k n → n ≡ Some r
      → walk id k (from s.records k n) s ≡ follow id k (walk id k (under s.records k r.version [])) (judged id k r s).0 (judged id k r s).1
  unfolding walk judge
  walk_more id k s n r M i =
      let at : record_at s.records k r.version ≡ Some r = subst (λ (x : Option (Record V)). Met s.records k x) i M in
      ap (λ (x : Option (Record V)). walk id k (from s.records k x) s) i
      ∙ (ap (λ x. judge id k r.version s x (look_up s.entries r.version) (walk id k (under s.records k r.version []))) at
      ∙ follows id k r s r.number (look_up s.entries r.version) (walk id k (under s.records k r.version [])))

  -- where the judgement of r is known: the walk ends with a refusal, or with the record found, or goes on among the records of t
  module _ (id k : ℕ) (s t : State V) (n : Option (Record V)) (r : Record V) (x : Result (Option (Record V)) Refusal) (M : Met s.records k n) (i : n ≡ Some r) (j : (t, x) ≡ judged id k r s) where
    judged_on : walk id k (from s.records k n) s ≡ follow id k (walk id k (under s.records k r.version [])) t x
    judged_on = walk_more id k s n r M i ∙ sym (ap (λ (p : State V × Result (Option (Record V)) Refusal). follow id k (walk id k (under s.records k r.version [])) p.0 p.1) j)

    pub walk_denied : (w : Refusal) → x ≡ Err w → deny t w ≡ walk id k (from s.records k n) s
    walk_denied w e = sym (judged_on ∙ ap (follow id k (walk id k (under s.records k r.version [])) t) e)

    pub walk_found : (y : Record V) → x ≡ Ok (Some y) → found id k t (Some y.value) ≡ walk id k (from s.records k n) s
    walk_found y e = sym (judged_on ∙ ap (follow id k (walk id k (under s.records k r.version [])) t) e)

    pub walk_next : (o : Option (Record V)) → x ≡ Ok None → Ascending t.records → ((b : ℕ) → b < r.version → versions_down t.records k b [] ≡ versions_down s.records k b []) → older k r.version t.records ≡ o
        → walk id k (from t.records k o) t ≡ walk id k (from s.records k n) s
    walk_next o e A same u =
        ap (λ vs. walk id k vs t) (sym (from_next t.records k r.version o A u) ∙ under_same t.records s.records k r.version same)
        ∙ sym (judged_on ∙ ap (follow id k (walk id k (under s.records k r.version [])) t) e)

  -- the end
  pub walk_all : (id k : ℕ) (s : State V) (n : Option (Record V)) → n ≡ None → walk id k (from s.records k n) s ≡ found id k s None
  unfolding walk
  walk_all id k s n i = rw i refl
