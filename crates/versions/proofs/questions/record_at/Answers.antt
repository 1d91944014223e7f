use Rattle.std.proofs.Common.{rules, ◌≡◌, ℕ, Bool, List, Option, Some, None, cond, eqb, nat_eq, arith, ap, ◌∙◌, sym}
use Rattle.std.proofs.lemmas.Bool.Decides.{nat_tests}
use Rattle.std.specs.Option.{MatchOption}
use Rattle.std.specs.Bool.{then_some}
use Rattle.model.specs.declared.words.Record.{Record}
use Rattle.model.specs.Records.{Ascending, record_at, newest}
use Rattle.model.proofs.Newest.{exact, at_newest}
use Rattle.versions.proofs.questions.record_at.Goals as goal

module _ {V : Type 0} (l : List (Record V)) (k v : ℕ) (A : Ascending l) where
  kept : (x : Record V) (b : Bool) → b ≡ nat_eq x.version v → cond (eqb v x.version) (Some x) None ≡ then_some b x
  kept x b e = grind (arith, nat_tests)

  -- the newest record up to v, where a test P of its version keeps it
  filtered : (o r : Option (Record V)) (P : Record V → Bool → Type 0) → ((x : Record V) (b : Bool) → P x b → b ≡ nat_eq x.version v) → newest k v l ≡ o
      → MatchOption o (r ≡ None) (λ x. (b : Bool) × P x b × (r ≡ then_some b x)) → record_at l k v ≡ r
  filtered None r P t n h = at_newest l k v A ∙ (ap (exact v) n ∙ sym h)
  filtered (Some x) r P t n h = at_newest l k v A ∙ (ap (exact v) n ∙ (kept x h.0 (t x h.0 h.1) ∙ sym h.2))

pub returns : goal.returns
returns g c = filtered (g.S.VersionStore.records c.args.store.now) c.args.key c.args.version (g.S.VersionStore.ordered c.args.store.now) _ _ _ (λ x b p. search rules) c.newest.ensures c.filter.ensures
