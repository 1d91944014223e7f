use Rattle.std.proofs.Common.{length, Ok, sym, ap, ◌∙◌, arith}
use Rattle.version_store.specs.Putting.{putting}
use Rattle.version_store.proofs.Puts.{put_new, put_full}
use Rattle.shelf.specs.Meaning.{shelved}
use Rattle.shelf.proofs.Searches.{hit_over, miss_none}
use Rattle.shelf.proofs.Shelves.{ascending, replaced, spare, added}
use Rattle.shelf.proofs.store.ShelfVersionStore.put.Goals as goal

pub invariant_of-self : goal.invariant_of-self
invariant_of-self g c = (replaced c.args.self.now c.args.item.now c.in-Ok.position c.place-place.result c.in-Ok.ensures c.place-place.ensures).1

pub returns-then-len-self-clause-after : goal.returns-then-len-self-clause-after
returns-then-len-self-clause-after g c =
    let s = c.args.self.now in
    sym (put_full (length s.records.now) c.args.item.now (shelved s) (miss_none c.args.item.now.key c.args.item.now.version c.in-Err.position (shelved s) c.in-Err.ensures) (omega arith))

pub invariant_of-self-in-Err : goal.invariant_of-self-in-Err
invariant_of-self-in-Err g c = spare c.args.self.now c.args.item.now c.place-place-in-Err.result (omega arith) c.place-place-in-Err.ensures

pub invariant_of-self-in-Err-2 : goal.invariant_of-self-in-Err-2
invariant_of-self-in-Err-2 g c =
    (added c.args.self.now c.args.item.now c.in-Err.position c.place-place-in-Err.result c.rotate_right.new.self c.in-Err.ensures (omega arith) c.place-place-in-Err.ensures c.rotate_right.ensures.permutation c.rotate_right.ensures.after).1

pub returns-in-Ok-clause-after : goal.returns-in-Ok-clause-after
returns-in-Ok-clause-after g c =
    let s = c.args.self.now in
    let e = c.args.item.now in
    ap (putting (Ok tt)) (replaced s e c.in-Ok.position c.place-place.result c.in-Ok.ensures c.place-place.ensures).0 ∙ sym (hit_over (length s.records.now) e c.in-Ok.position (shelved s) (ascending s) c.in-Ok.ensures)

pub returns-else-len-self-clause-after : goal.returns-else-len-self-clause-after
returns-else-len-self-clause-after g c =
    let s = c.args.self.now in
    let e = c.args.item.now in
    ap (putting (Ok tt))
    (added s e c.in-Err.position c.place-place-in-Err.result c.rotate_right.new.self c.in-Err.ensures (omega arith) c.place-place-in-Err.ensures c.rotate_right.ensures.permutation c.rotate_right.ensures.after).0
    ∙ sym (put_new (length s.records.now) e (shelved s) (miss_none e.key e.version c.in-Err.position (shelved s) c.in-Err.ensures) (omega arith))
