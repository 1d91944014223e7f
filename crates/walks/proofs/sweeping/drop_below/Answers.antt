use Rattle.std.proofs.Common.{◌≡◌, true, sym, ap, ◌∙◌, ap₂}
use Rattle.std.proofs.lemmas.Bool.{lt-ltb}
use Rattle.model.specs.Versions.{number_under}
use Rattle.model.specs.State.{with_records}
use Rattle.model.specs.Sweeping.{drop_low}
use Rattle.walks.proofs.Dropping.{fewer_by_one, no_more, lower_same}
use Rattle.walks.proofs.sweeping.drop_below.Goals as goal

pub returns-then-number-limit : goal.returns-then-number-limit
returns-then-number-limit g c =
    let k = c.args.key in
    let r = c.args.met.now in
    let l = g.S.VersionStore.records c.args.store.now in
    let d = g.S.VersionStore.records c.drop_record.new.self in
    let A = g.S.VersionStore.ordered c.args.store.now in
    let e = c.drop_record.ensures.after in
    let u : number_under c.args.limit r.number ≡ true = ap (number_under c.args.limit) c.in-Some.is ∙ lt-ltb c.in-Some.number c.args.limit c.if-number-limit.true in
    record {
      dropped = λ s n. ap₂ (λ x m. (with_records x s, m)) e (fewer_by_one k r.version l d r A c.requires e n) ∙ sym (ap (drop_low k r.version (with_records l s) n) u);
      lower = lower_same k r.version l d r A c.requires e;
      fewer = no_more k r.version l d r A c.requires e;
      kept = c.drop_record.ensures.kept;
    }
