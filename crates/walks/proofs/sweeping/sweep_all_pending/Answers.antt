use Rattle.std.proofs.Common.{◌≡◌, ◌+◌, ◌-◌, ◌≤◌, sym, refl, ap, ◌∙◌, ap₂, arith}
use Rattle.model.specs.Numbers.{last_number}
use Rattle.model.specs.Records.{count}
use Rattle.model.specs.Sweeping.{sweep_down}
use Rattle.versions.specs.Meaning.{numbers_of}
use Rattle.versions.proofs.Going.{from, met_first, from_first, met_next, height_less}
use Rattle.walks.specs.Memory.{with_memory}
use Rattle.walks.proofs.Dropping.{sweep_more, sweep_all}
use Rattle.walks.proofs.sweeping.sweep_all_pending.Goals as goal

pub loop-next-init : goal.loop-next-init
loop-next-init g c =
    let l = g.S.VersionStore.records c.args.store.now in
    let k = c.args.key in
    let o = c.newest-next.result in
    let A = g.S.VersionStore.ordered c.args.store.now in
    let e = c.newest-next.ensures in
    let z : count l - count l ≡ 0 = omega arith in (
      met_first l k last_number o A e,
      λ s f. ap₂ (λ vs n. sweep_down k vs (with_memory (numbers_of c.args.classes.now) l (g.C.CommitTable.entries c.args.commits.now) s) n) (sym (from_first l k last_number o A e)) z,
      omega arith,
      refl,
    )

pub loop-next-preserved : goal.loop-next-preserved
loop-next-preserved g c =
    let k = c.args.key in
    let h = g.S.VersionStore.records c.args.store.now in
    let l = g.S.VersionStore.records c.loop-next.store in
    let d = g.S.VersionStore.records c.sweep_pending.new.store in
    let es = g.C.CommitTable.entries c.args.commits.now in
    let A = g.S.VersionStore.ordered c.sweep_pending.new.store in
    let n = c.loop-next.next in
    let r = c.in-Some.met in
    let o = c.older-next.result in
    let e = c.older-next.ensures in
    let a : count d ≤ count l = c.sweep_pending.ensures.fewer in
    let b : count l ≤ count h = c.loop-next.invariant.2 in
    let z : count h - count d ≡ (count h - count l) + (count l - count d) = omega arith in (
      met_next d k r.version o A e,
      λ s f.
          ap (sweep_down k (from d k o) (with_memory (numbers_of c.sweep_pending.new.classes) d es s)) z
          ∙ (sweep_more k (with_memory (numbers_of c.loop-next.classes) l es s) (with_memory (numbers_of c.sweep_pending.new.classes) d es s) (count h - count l) ((count h - count l) + (count l - count d)) n r o
          c.loop-next.invariant.0 c.in-Some.is (c.sweep_pending.ensures.swept s f (count h - count l)) A c.sweep_pending.ensures.lower e
          ∙ c.loop-next.invariant.1 s f),
      omega arith,
      c.sweep_pending.ensures.kept ∙ c.loop-next.invariant.3,
    )

pub loop-next-smaller : goal.loop-next-smaller
loop-next-smaller g c = height_less (g.S.VersionStore.records c.sweep_pending.new.store) c.args.key c.loop-next.next c.in-Some.met c.older-next.result c.in-Some.is c.older-next.ensures

pub returns : goal.returns
returns g c =
    let l = g.S.VersionStore.records c.loop-next.store in
    record {
      swept = λ s f. sym (sweep_all c.args.key (with_memory (numbers_of c.loop-next.classes) l (g.C.CommitTable.entries c.args.commits.now) s) _ c.loop-next.next c.in_default.is) ∙ c.loop-next.invariant.1 s f;
      fewer = c.loop-next.invariant.2;
      kept = c.loop-next.invariant.3;
    }
