use Rattle.std.proofs.Common.{get_or, sym, ap, ◌∙◌, arith}
use Rattle.shelf.specs.Meaning.{shelved}
use Rattle.shelf.proofs.Searches.{newest_first, newest_hit, newest_miss}
use Rattle.shelf.proofs.Shelves.{ascending}
use Rattle.shelf.proofs.store.ShelfVersionStore.newest.Goals.{in-Ok, in-Err+in_ok-position-in-Err}
use Rattle.shelf.proofs.store.ShelfVersionStore.newest.Goals as goal

pub returns-in_err-position-in-Err : goal.returns-in_err-position-in-Err
returns-in_err-position-in-Err g c = newest_first c.args.key c.args.bound c.in-Err.above (shelved c.args.self.now) c.in-Err.ensures (omega (arith, c.in_err-position-in-Err.ensures)) ∙ sym c.from_residual.ensures

pub returns : goal.returns
returns g c =
    let s = c.args.self.now in
    let x = c.record_at-newest.result in
    elim c.match-find.branch [
      | in-Ok w ↦
          newest_hit c.args.key c.args.bound w.in-Ok.position (shelved s) x (ascending s) w.in-Ok.ensures (c.record_at-newest.ensures ∙ ap (λ i. get_or (shelved s) i x) w.position-is) ∙ sym c.then_some.ensures
      | in-Err+in_ok-position-in-Err w ↦
          newest_miss c.args.key c.args.bound w.in_ok-position-in-Err.position w.in-Err.above (shelved s) x (ascending s) w.in-Err.ensures (omega (arith, w.in_ok-position-in-Err.ensures)) (c.record_at-newest.ensures ∙ ap (λ i. get_or (shelved s) i x) w.position-is)
          ∙ sym c.then_some.ensures
    ]
