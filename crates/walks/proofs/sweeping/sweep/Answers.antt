use Rattle.std.proofs.Common.{◌≡◌, ℕ, ◌+◌, ◌-◌, ◌≤◌, sym, ap, ◌∙◌, arith}
use Rattle.model.specs.declared.call.Answer.{Answer}
use Rattle.model.specs.declared.call.Answer.TheVariants.{Number}
use Rattle.model.specs.Records.{count}
use Rattle.model.specs.Versions.{versions, greatest_below}
use Rattle.model.specs.State.{State}
use Rattle.model.specs.Sweeping.{sweep_under, swept}
use Rattle.versions.specs.Meaning.{numbers_of}
use Rattle.walks.specs.Memory.{with_memory}
use Rattle.walks.proofs.sweeping.sweep.Goals as goal

pub returns : goal.returns
returns g c =
    let k = c.args.key in
    let h = g.S.VersionStore.records c.args.store.now in
    let l = g.S.VersionStore.records c.sweep_all_pending.new.store in
    let d = g.S.VersionStore.records c.drop_all_below.new.store in
    let t = with_memory (numbers_of c.sweep_all_pending.new.classes) l (g.C.CommitTable.entries c.args.commits.now) in
    let a : count l ≤ count h = c.sweep_all_pending.ensures.fewer in
    let b : count d ≤ count l = c.drop_all_below.ensures.fewer in
    let n : c.count-before.result - c.count-after.result ≡ (count h - count l) + (count l - count d) = omega (arith, c.count-before.ensures, c.count-after.ensures) in
    let told : State g.row.S-Value.Denot × ℕ → State g.row.S-Value.Denot × Answer g.row.S-Value.Denot = λ p. (p.0, Number p.1) in
    record {
      swept = λ s f.
          ap (λ m. (with_memory (numbers_of c.sweep_all_pending.new.classes) d (g.C.CommitTable.entries c.args.commits.now) s, Number m)) n
          ∙ (ap told (c.drop_all_below.ensures.dropped (t s) (count h - count l)
          ∙ ap (λ m. sweep_under k m (versions k l) (t s) (count h - count l)) (c.greatest_below-kept.ensures ∙ ap (λ i. greatest_below k i l) (sym f)))
          ∙ ap (swept k) (c.sweep_all_pending.ensures.swept s f));
      kept = c.drop_all_below.ensures.kept ∙ c.sweep_all_pending.ensures.kept;
    }
