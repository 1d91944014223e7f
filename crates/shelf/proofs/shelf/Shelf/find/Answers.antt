use Rattle.std.proofs.Common.{take, rules}
use Rattle.std.proofs.lemmas.Fn.{always_returns_same}
use Rattle.std.specs.List.{slice_get}
use Rattle.shelf.specs.Search.{standing_of}
use Rattle.shelf.proofs.Shelves.{searched, live, ascending}
use Rattle.shelf.proofs.shelf.Shelf.find.Goals as goal

pub returns : goal.returns
returns g c =
    let s = c.args.self.now in
    searched s.records.now (take s.len s.index.now) c.args.key c.args.version c.binary_search_by.result (live s) (ascending s) c.binary_search_by.ensures.bound
    (c.binary_search_by.ensures.position (λ i. standing_of c.args.key c.args.version (slice_get s.records.now i)) (always_returns_same _ _ _ (λ a r f k. search rules)))
