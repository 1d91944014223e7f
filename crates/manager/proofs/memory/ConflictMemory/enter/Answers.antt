use Rattle.std.proofs.Common.{ap, ◌∙◌, arith}
use Rattle.table.specs.Meaning.{entries, capacity, insert_answer}
use Rattle.table.specs.Tables.{entries_rising, entries_within}
use Rattle.manager.specs.Memory.{memory}
use Rattle.manager.proofs.Forgetting.{enters_at_once, enters_full}
use Rattle.manager.proofs.memory.ConflictMemory.enter.Goals as goal

pub returns-else-is_err-clause-entered : goal.returns-else-is_err-clause-entered
returns-else-is_err-clause-entered c =
    let m = c.args.self.now in
    enters_at_once (capacity m.table.now) c.args.key c.args.number m.low (entries m.table.now) c.insert.result _ c.insert.ensures.answer c.insert.ensures.after (grind arith)

pub returns-then-is_err-clause-entered : goal.returns-then-is_err-clause-entered
returns-then-is_err-clause-entered c =
    let m = c.args.self.now in
    let n = capacity m.table.now in
    let k = c.args.key in
    let q = c.insert-then-is_err.ensures.answer ∙ ap (λ z. insert_answer z k (entries c.forget.new.self.table.now)) (c.forget.ensures.kept ∙ c.insert.ensures.kept) in
    enters_full n k c.args.number m.low (entries m.table.now) c.insert.result _ c.insert.ensures.answer c.insert.ensures.after (grind arith) (entries_rising m.table.now) m.some_place (entries_within m.table.now)
    (memory c.forget.new.self) c.forget.ensures.forgot _ _ q c.insert-then-is_err.ensures.after
