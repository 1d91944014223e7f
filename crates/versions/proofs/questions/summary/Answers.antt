use Rattle.std.proofs.Common.{◌||◌, None, sym, ap, ◌∙◌}
use Rattle.model.specs.Versions.{pending_among, greatest_among}
use Rattle.versions.proofs.Going.{from, met_first, from_first, met_next, height_less, pending_more, greatest_more, pending_all, greatest_all}
use Rattle.versions.proofs.questions.summary.Goals as goal

pub loop-next-init : goal.loop-next-init
loop-next-init g c =
    let l = g.S.VersionStore.records c.args.store.now in
    let k = c.args.key in
    let A = g.S.VersionStore.ordered c.args.store.now in
    let e = c.newest-next.ensures in
    (met_first l k _ _ A e, sym (ap (pending_among l k) (from_first l k _ _ A e)), sym (ap (λ vs. greatest_among l k vs (0, None)) (from_first l k _ _ A e)))

pub loop-next-preserved : goal.loop-next-preserved
loop-next-preserved g c =
    let l = g.S.VersionStore.records c.args.store.now in
    let k = c.args.key in
    let A = g.S.VersionStore.ordered c.args.store.now in
    let M = c.loop-next.invariant.0 in
    let e = c.older-next.ensures in (
      met_next l k _ _ A e,
      ap (λ b. b || pending_among l k (from l k c.older-next.result)) c.with-seen.ensures.pending ∙ (sym (pending_more l k _ _ _ A M c.in-Some.is e _) ∙ c.loop-next.invariant.1),
      ap (λ p. greatest_among l k (from l k c.older-next.result) p) c.with-seen.ensures.greatest ∙ (sym (greatest_more l k _ _ _ A M c.in-Some.is e _) ∙ c.loop-next.invariant.2),
    )

pub loop-next-smaller : goal.loop-next-smaller
loop-next-smaller g c = height_less (g.S.VersionStore.records c.args.store.now) c.args.key _ _ _ c.in-Some.is c.older-next.ensures

pub returns : goal.returns
returns g c =
    let l = g.S.VersionStore.records c.args.store.now in
    let k = c.args.key in
    record { pending = sym (pending_all l k _ c.in_default.is _) ∙ c.loop-next.invariant.1; greatest = sym (greatest_all l k _ c.in_default.is _) ∙ c.loop-next.invariant.2 }
