use Rattle.std.proofs.Common.{◌≡◌, Some, None, Ok, Err, sym, refl, ap, ◌∙◌, arith}
use Rattle.std.proofs.lemmas.Result.{err_from_is_err_and, IfOk-from_err}
use Rattle.model.specs.declared.call.Answer.TheVariants.{Value}
use Rattle.model.specs.Records.{newest}
use Rattle.model.specs.Reading.{walk}
use Rattle.versions.specs.Meaning.{numbers_of}
use Rattle.versions.proofs.Going.{met_first, from_first, height_first, met_next, height_less}
use Rattle.walks.specs.Memory.{with_memory}
use Rattle.walks.specs.Reading.{read_answer, numbered_below}
use Rattle.walks.proofs.Walking.{walk_denied, walk_found, walk_next, walk_all}
use Rattle.walks.proofs.Finding.{passed_first, passed_next, found_newest, found_none}
use Rattle.walks.proofs.reading.walk.Goals as goal

pub loop-next-init : goal.loop-next-init
loop-next-init g c =
    let l = g.S.VersionStore.records c.args.store.now in
    let k = c.args.key in
    let id = c.args.id in
    let o = c.newest-next.result in
    let A = g.S.VersionStore.ordered c.args.store.now in
    let e = c.newest-next.ensures in (
      met_first l k id o A e,
      λ s f p. sym (ap (λ vs. walk id k vs (with_memory (numbers_of c.args.classes.now) l (g.C.CommitTable.entries c.args.commits.now) s)) (from_first l k id o A e)),
      refl,
      refl,
      passed_first id k l o A e,
      height_first l k id o e,
    )

pub loop-next-preserved : goal.loop-next-preserved
loop-next-preserved g c =
    let k = c.args.key in
    let id = c.args.id in
    let l = g.S.VersionStore.records c.loop-next.store in
    let d = g.S.VersionStore.records c.judge.new.store in
    let A = g.S.VersionStore.ordered c.judge.new.store in
    let n = c.loop-next.next in
    let r = c.in-Some.met in
    let o = c.older-next.result in
    let e = c.older-next.ensures in (
      met_next d k r.version o A e,
      λ s f p.
          walk_next id k
          (with_memory (numbers_of c.loop-next.classes) l (g.C.CommitTable.entries c.loop-next.commits) s)
          (with_memory (numbers_of c.judge.new.classes) d (g.C.CommitTable.entries c.judge.new.commits) s)
          n r c.judge.result c.loop-next.invariant.0 c.in-Some.is (c.judge.ensures.judged s f (p ∙ sym c.loop-next.invariant.3))
          o (c.in_ok-judged.was ∙ ap Ok c.in_default-judged.is) A (λ b h. c.judge.ensures.versions b) e
          ∙ c.loop-next.invariant.1 s f p,
      c.judge.ensures.records ∙ c.loop-next.invariant.2,
      c.judge.ensures.entries ∙ c.loop-next.invariant.3,
      passed_next id k l d n r c.in-Some.is c.loop-next.invariant.4 A c.judge.ensures.others o (sym c.in_default-judged.is ∙ c.in_ok-judged.ensures.numbered) e,
      (let h = height_less d k n r o c.in-Some.is e in omega (arith, c.loop-next.invariant.5)),
    )

pub loop-next-smaller : goal.loop-next-smaller
loop-next-smaller g c = height_less (g.S.VersionStore.records c.judge.new.store) c.args.key c.loop-next.next c.in-Some.met c.older-next.result c.in-Some.is c.older-next.ensures

pub returns-in_err-judged : goal.returns-in_err-judged
returns-in_err-judged g c =
    let k = c.args.key in
    let id = c.args.id in
    let d = g.S.VersionStore.records c.judge.new.store in
    let t = with_memory (numbers_of c.judge.new.classes) d (g.C.CommitTable.entries c.judge.new.commits) in
    let w = c.in_err-judged.field-0.0 in
    let p = err_from_is_err_and c.from_residual.result c.from_residual.ensures.1 in
    record {
      walked = λ s f q.
          ap (λ x. (t s, read_answer x)) (p.1 ∙ ap Err p.2)
          ∙ (walk_denied id k
          (with_memory (numbers_of c.loop-next.classes) (g.S.VersionStore.records c.loop-next.store) (g.C.CommitTable.entries c.loop-next.commits) s)
          (t s) c.loop-next.next c.in-Some.met c.judge.result c.loop-next.invariant.0 c.in-Some.is (c.judge.ensures.judged s f (q ∙ sym c.loop-next.invariant.3))
          w c.in_err-judged.was
          ∙ c.loop-next.invariant.1 s f q);
      found = IfOk-from_err c.from_residual.result (λ o. o ≡ newest k id (numbered_below id d)) c.from_residual.ensures.0;
      records = c.judge.ensures.records ∙ c.loop-next.invariant.2;
      entries = c.judge.ensures.entries ∙ c.loop-next.invariant.3;
    }

pub returns-in-Some-judged : goal.returns-in-Some-judged
returns-in-Some-judged g c =
    let k = c.args.key in
    let id = c.args.id in
    let l = g.S.VersionStore.records c.loop-next.store in
    let d = g.S.VersionStore.records c.judge.new.store in
    let A = g.S.VersionStore.ordered c.judge.new.store in
    let n = c.loop-next.next in
    let r = c.in-Some.met in
    let y = c.in-Some-judged.found in
    let es = g.C.CommitTable.entries c.judge.new.commits in
    record {
      walked = λ s f p.
          ap (λ a. (with_memory a d es s, Value (Some y.value))) c.raise.ensures
          ∙ (walk_found id k
          (with_memory (numbers_of c.loop-next.classes) l (g.C.CommitTable.entries c.loop-next.commits) s)
          (with_memory (numbers_of c.judge.new.classes) d es s)
          n r c.judge.result c.loop-next.invariant.0 c.in-Some.is (c.judge.ensures.judged s f (p ∙ sym c.loop-next.invariant.3))
          y (c.in_ok-judged.was ∙ ap Ok c.in-Some-judged.is)
          ∙ c.loop-next.invariant.1 s f p);
      found = found_newest id k l d n r c.in-Some.is c.loop-next.invariant.4 A c.judge.ensures.others y (sym c.in-Some-judged.is ∙ c.in_ok-judged.ensures.numbered) c.loop-next.invariant.5;
      records = c.judge.ensures.records ∙ c.loop-next.invariant.2;
      entries = c.judge.ensures.entries ∙ c.loop-next.invariant.3;
    }

pub returns : goal.returns
returns g c =
    let k = c.args.key in
    let id = c.args.id in
    let l = g.S.VersionStore.records c.loop-next.store in
    let es = g.C.CommitTable.entries c.loop-next.commits in
    record {
      walked = λ s f p.
          ap (λ a. (with_memory a l es s, Value None)) c.raise-2.ensures
          ∙ (sym (walk_all id k (with_memory (numbers_of c.loop-next.classes) l es s) c.loop-next.next c.in_default.is) ∙ c.loop-next.invariant.1 s f p);
      found = found_none id k l c.loop-next.next (g.S.VersionStore.ordered c.loop-next.store) c.in_default.is c.loop-next.invariant.4;
      records = c.loop-next.invariant.2;
      entries = c.loop-next.invariant.3;
    }
