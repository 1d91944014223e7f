use Rattle.std.proofs.Common.{max, sym, ap, ◌∙◌}
use Rattle.model.specs.Versions.{greatest_below_among}
use Rattle.versions.proofs.Going.{from, met_first, from_first, met_next, height_less, below_more, below_all}
use Rattle.versions.proofs.questions.greatest_below.Goals as goal

pub loop-next-init : goal.loop-next-init
loop-next-init g c =
    let l = g.S.VersionStore.records c.args.store.now in
    let k = c.args.key in
    let A = g.S.VersionStore.ordered c.args.store.now in
    let e = c.newest-next.ensures in
    (met_first l k _ _ A e, sym (ap (λ vs. greatest_below_among l k c.args.floor vs 0) (from_first l k _ _ A e)))

pub loop-next-preserved : goal.loop-next-preserved
loop-next-preserved g c =
    let l = g.S.VersionStore.records c.args.store.now in
    let k = c.args.key in
    let fl = c.args.floor in
    let A = g.S.VersionStore.ordered c.args.store.now in
    let e = c.older-next.ensures in (
      met_next l k _ _ A e,
      ap (λ m. greatest_below_among l k fl (from l k c.older-next.result) m) (c.max-greatest.ensures ∙ ap (λ m. max m c.loop-next.greatest) c.number_below.ensures)
          ∙ (sym (below_more l k _ _ _ A c.loop-next.invariant.0 c.in-Some.is e fl _) ∙ c.loop-next.invariant.1),
    )

pub loop-next-smaller : goal.loop-next-smaller
loop-next-smaller g c = height_less (g.S.VersionStore.records c.args.store.now) c.args.key _ _ _ c.in-Some.is c.older-next.ensures

pub returns : goal.returns
returns g c = sym (below_all (g.S.VersionStore.records c.args.store.now) c.args.key _ c.in_default.is c.args.floor _) ∙ c.loop-next.invariant.1
