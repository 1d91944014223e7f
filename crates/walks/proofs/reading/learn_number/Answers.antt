use Rattle.std.proofs.Common.{[], Some, Ok, sym, refl, ap, ◌∙◌, ap₂}
use Rattle.model.specs.Records.{record_at}
use Rattle.model.specs.Versions.{versions_down}
use Rattle.model.proofs.Newest.{down_mark}
use Rattle.versions.specs.Meaning.{numbers_of}
use Rattle.walks.specs.Memory.{with_memory}
use Rattle.walks.specs.Reading.{learn}
use Rattle.walks.proofs.Finding.{mark_here, mark_elsewhere}
use Rattle.walks.proofs.reading.learn_number.Goals as goal

pub returns-in-Committed : goal.returns-in-Committed
returns-in-Committed g c =
    let k = c.args.key in
    let v = c.args.met.now.version in
    let n = c.in-Committed.number in
    let l = g.S.VersionStore.records c.args.store.now in
    let e = g.C.CommitTable.entries c.args.commits.now in
    let m = c.stamp_record.ensures.marked in
    record {
      learned = λ s f p.
          ap₂ (λ a b. (with_memory a b e s, Ok (Some n))) c.stamp_record.ensures.raised m
          ∙ sym (ap₂ (learn k v (with_memory (numbers_of c.args.classes.now) l e s)) c.in_default.is (c.in-Some-look_up.ensures ∙ ap Some c.in-Committed.is));
      versions = λ b. ap (λ d. versions_down d k b []) m ∙ down_mark k v n l k b [];
      others = λ w ne. ap (λ d. record_at d k w) m ∙ mark_elsewhere k v n w l ne;
      numbered = ap (λ d. record_at d k v) m ∙ mark_here k v n l c.args.met.now c.requires;
      records = c.stamp_record.ensures.kept;
      entries = refl;
    }
