use Rattle.std.proofs.Common.{◌≡◌, ◌+◌, get_or, drop, sym, refl, ap, ◌∙◌, arith}
use Rattle.model.specs.Records.{record_at}
use Rattle.model.specs.Versions.{is_pending_record, one_if, drop_pending, drop_pending_all, count_pending_all}
use Rattle.versions.proofs.Keys.{drop_more, drop_all, count_more, count_all}
use Rattle.versions.proofs.stamping.drop_pending_all.Goals as goal
use Rattle.versions.proofs.stamping.drop_pending_all.Goals.{then-drop_pending, else-drop_pending}

pub loop-key-init : goal.loop-key-init
loop-key-init g c = (omega arith, refl, refl, omega arith)

pub loop-key-preserved : goal.loop-key-preserved
loop-key-preserved g c =
    let v = c.args.version in
    let ks = c.args.keys.now in
    let i = c.loop-key.key-index in
    let l = g.S.VersionStore.records c.loop-key.store in
    let a = c.drop_pending.ensures.after in
    let n : c.if-drop_pending.dropped ≡ c.loop-key.dropped + one_if c.drop_pending.result =
    elim c.if-drop_pending.branch [
      | then-drop_pending w ↦ (let e : one_if c.drop_pending.result ≡ 1 = ap one_if w.if-drop_pending.true in omega (arith, w.dropped-is))
      | else-drop_pending w ↦ (let e : one_if c.drop_pending.result ≡ 0 = ap one_if w.if-drop_pending.false in omega (arith, w.dropped-is))
    ] in
    let m : one_if c.drop_pending.result ≡ one_if (is_pending_record (record_at l (get_or ks i 0) v)) = ap one_if c.drop_pending.ensures.answer in
    let t : count_pending_all v (drop (i + 1) ks) (g.S.VersionStore.records c.drop_pending.new.store) ≡ count_pending_all v (drop (i + 1) ks) (drop_pending v (get_or ks i 0) l) =
    ap (count_pending_all v (drop (i + 1) ks)) a in (
      omega (arith, count_more v ks i l c.loop-key-test.true, c.loop-key.invariant.0),
      ap (drop_pending_all v (drop (i + 1) ks)) a ∙ (sym (drop_more v ks i l c.loop-key-test.true) ∙ c.loop-key.invariant.1),
      c.drop_pending.ensures.kept ∙ c.loop-key.invariant.2,
      elim c.if-drop_pending.branch [ then-drop_pending w ↦ omega (arith, w.dropped-is, c.loop-key.invariant.3) | else-drop_pending w ↦ omega (arith, w.dropped-is, c.loop-key.invariant.3) ],
    )

pub returns : goal.returns
returns g c =
    let v = c.args.version in
    let ks = c.args.keys.now in
    let l = g.S.VersionStore.records c.loop-key.store in
    record {
      answer = omega (arith, count_all v ks c.loop-key.key-index l c.loop-key-test.false, c.loop-key.invariant.0);
      after = sym (drop_all v ks c.loop-key.key-index l c.loop-key-test.false) ∙ c.loop-key.invariant.1;
      kept = c.loop-key.invariant.2;
    }
