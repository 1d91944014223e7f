use Rattle.std.proofs.Common.{◌≡◌, ℕ, ◌+◌, ◌-◌, ◌≤◌, sym, refl, ap, ◌∙◌, ap₂, arith}
use Rattle.model.specs.Numbers.{last_number}
use Rattle.model.specs.Records.{count}
use Rattle.model.specs.State.{with_records}
use Rattle.model.specs.Sweeping.{sweep_under}
use Rattle.versions.proofs.Going.{from, met_first, from_first, met_next, height_less}
use Rattle.walks.proofs.Dropping.{under_more, under_all}
use Rattle.walks.proofs.sweeping.drop_all_below.Goals as goal

pub loop-next-init : goal.loop-next-init
loop-next-init g c =
    let l = g.S.VersionStore.records c.args.store.now in
    let k = c.args.key in
    let o = c.newest-next.result in
    let A = g.S.VersionStore.ordered c.args.store.now in
    let e = c.newest-next.ensures in
    let z : (n : ℕ) → n + (count l - count l) ≡ n = λ n. omega arith in (
      met_first l k last_number o A e,
      λ s n. ap₂ (λ vs m. sweep_under k c.args.limit vs (with_records l s) m) (sym (from_first l k last_number o A e)) (z n),
      omega arith,
      refl,
    )

pub loop-next-preserved : goal.loop-next-preserved
loop-next-preserved g c =
    let k = c.args.key in
    let q = c.args.limit in
    let h = g.S.VersionStore.records c.args.store.now in
    let l = g.S.VersionStore.records c.loop-next.store in
    let d = g.S.VersionStore.records c.drop_below.new.store in
    let A = g.S.VersionStore.ordered c.drop_below.new.store in
    let r = c.in-Some.met in
    let o = c.older-next.result in
    let e = c.older-next.ensures in
    let a : count d ≤ count l = c.drop_below.ensures.fewer in
    let b : count l ≤ count h = c.loop-next.invariant.2 in
    let z : (n : ℕ) → n + (count h - count d) ≡ (n + (count h - count l)) + (count l - count d) = λ n. omega arith in (
      met_next d k r.version o A e,
      λ s n.
          ap (sweep_under k q (from d k o) (with_records d s)) (z n)
          ∙ (under_more k q (with_records l s) (with_records d s) (n + (count h - count l)) ((n + (count h - count l)) + (count l - count d)) c.loop-next.next r o
          c.loop-next.invariant.0 c.in-Some.is (c.drop_below.ensures.dropped s (n + (count h - count l))) A c.drop_below.ensures.lower e
          ∙ c.loop-next.invariant.1 s n),
      omega arith,
      c.drop_below.ensures.kept ∙ c.loop-next.invariant.3,
    )

pub loop-next-smaller : goal.loop-next-smaller
loop-next-smaller g c = height_less (g.S.VersionStore.records c.drop_below.new.store) c.args.key c.loop-next.next c.in-Some.met c.older-next.result c.in-Some.is c.older-next.ensures

pub returns : goal.returns
returns g c =
    record {
      dropped = λ s n. sym (under_all c.args.key c.args.limit (with_records (g.S.VersionStore.records c.loop-next.store) s) _ c.loop-next.next c.in_default.is) ∙ c.loop-next.invariant.1 s n;
      fewer = c.loop-next.invariant.2;
      kept = c.loop-next.invariant.3;
    }
