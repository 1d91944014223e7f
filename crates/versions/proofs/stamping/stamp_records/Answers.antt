use Rattle.std.proofs.Common.{◌+◌, drop, sym, refl, ◌∙◌, ap₂}
use Rattle.model.specs.Stamping.{stamp_records}
use Rattle.versions.specs.Meaning.{with_versions}
use Rattle.versions.proofs.Keys.{stamp_more, stamp_all}
use Rattle.versions.proofs.stamping.stamp_records.Goals as goal

pub loop-key-init : goal.loop-key-init
loop-key-init g c = (λ s. refl, refl)

pub loop-key-preserved : goal.loop-key-preserved
loop-key-preserved g c =
    let ks = c.args.keys.now in (
      λ s. ap₂ (λ n l. stamp_records c.args.version c.args.number (drop (c.loop-key.key-index + 1) ks) (with_versions n l s)) c.stamp_record.ensures.raised c.stamp_record.ensures.marked
          ∙ (sym (stamp_more c.args.version ks c.loop-key.key-index c.args.number _ c.loop-key-test.true) ∙ c.loop-key.invariant.0 s),
      c.stamp_record.ensures.kept ∙ c.loop-key.invariant.1,
    )

pub returns : goal.returns
returns g c =
    record { stamped = λ s. sym (stamp_all c.args.version c.args.keys.now c.loop-key.key-index c.args.number _ c.loop-key-test.false) ∙ c.loop-key.invariant.0 s; kept = c.loop-key.invariant.1 }
