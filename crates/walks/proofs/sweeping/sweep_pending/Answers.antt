use Rattle.std.proofs.Common.{◌≡◌, ℕ, ◌+◌, ◌-◌, ltb, [], Some, sym, ap, ◌∙◌, ap₂, arith}
use Rattle.std.proofs.lemmas.Bool.{lt-ltb}
use Rattle.model.specs.Maps.{look_up}
use Rattle.model.specs.Records.{count, mark}
use Rattle.model.specs.Classes.{raise_class}
use Rattle.model.specs.Versions.{versions_down}
use Rattle.model.specs.State.{State}
use Rattle.model.specs.Sweeping.{sweep_pending, sweep_number, drop_low}
use Rattle.model.proofs.Newest.{down_mark}
use Rattle.versions.specs.Meaning.{numbers_of}
use Rattle.walks.specs.Memory.{with_memory}
use Rattle.walks.proofs.Dropping.{count_mark, fewer_by_one, no_more, lower_same}
use Rattle.walks.proofs.sweeping.sweep_pending.Goals as goal
use Rattle.walks.proofs.sweeping.sweep_pending.Goals.{in-Some-look_up+in_default-standing, in_default-look_up}

pub returns-in-Committed : goal.returns-in-Committed
returns-in-Committed g c =
    let k = c.args.key in
    let v = c.args.met.now.version in
    let q = c.in-Committed.number in
    let l = g.S.VersionStore.records c.args.store.now in
    let d = g.S.VersionStore.records c.stamp_record.new.store in
    let es = g.C.CommitTable.entries c.args.commits.now in
    let m = c.stamp_record.ensures.marked in
    let z : count d ≡ count l = ap (λ t. count t) m ∙ count_mark k v q l in
    let y : (n : ℕ) → n + (count l - count d) ≡ n = λ n. omega arith in
    record {
      swept = λ s f n.
          let t = with_memory (numbers_of c.args.classes.now) l es s in
          ap₂ (λ a x. (with_memory a x es s, n + (count l - count d))) c.stamp_record.ensures.raised m
          ∙ (ap (λ i. (with_memory (raise_class k q (numbers_of c.args.classes.now)) (mark k v q l) es s, i)) (y n)
          ∙ sym (ap (λ o. sweep_number k v t n o) c.in_default.is ∙ ap (sweep_pending k v t n) (c.in-Some-look_up.ensures ∙ ap Some c.in-Committed.is)));
      lower = λ b h. ap (λ x. versions_down x k b []) m ∙ down_mark k v q l k b [];
      fewer = omega arith;
      kept = c.stamp_record.ensures.kept;
    }

pub returns-then-met-floor : goal.returns-then-met-floor
returns-then-met-floor g c =
    let k = c.args.key in
    let r = c.args.met.now in
    let v = r.version in
    let l = g.S.VersionStore.records c.args.store.now in
    let d = g.S.VersionStore.records c.drop_record.new.self in
    let A = g.S.VersionStore.ordered c.args.store.now in
    let es = g.C.CommitTable.entries c.args.commits.now in
    let e = c.drop_record.ensures.after in
    let t : State g.row.S-Value.Denot → State g.row.S-Value.Denot = with_memory (numbers_of c.args.classes.now) l es in
    let not-committed : (s : State g.row.S-Value.Denot) (n : ℕ) → sweep_pending k v (t s) n (look_up es v) ≡ drop_low k v (t s) n (ltb v s.floor) =
    λ s n. elim c.match-look_up.branch [
      | in-Some-look_up+in_default-standing w ↦ ap (sweep_pending k v (t s) n) (w.in-Some-look_up.ensures ∙ ap Some w.in_default-standing.is)
      | in_default-look_up w ↦ ap (sweep_pending k v (t s) n) w.in_default-look_up.ensures
    ] in
    record {
      swept = λ s f n.
          ap₂ (λ x m. (with_memory (numbers_of c.args.classes.now) x es s, m)) e (fewer_by_one k v l d r A c.requires e n)
          ∙ sym (ap (sweep_number k v (t s) n) c.in_default.is ∙ (not-committed s n ∙ ap (drop_low k v (t s) n) (ap (λ i. ltb v i) f ∙ lt-ltb v c.args.floor c.if-met-floor.true)));
      lower = lower_same k v l d r A c.requires e;
      fewer = no_more k v l d r A c.requires e;
      kept = c.drop_record.ensures.kept;
    }
