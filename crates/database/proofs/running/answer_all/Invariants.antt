use Rattle.std.proofs.Common.{◌≡◌, take}
use Rattle.model.specs.After.{after}
use Rattle.engine.specs.Meaning.{database}
use Rattle.database.specs.Running.{answers_to}
use Rattle.database.proofs.running.answer_all.Given as goal

-- the first i calls are answered
abbrev pub invariant-loop-i : goal.invariant-loop-i
invariant-loop-i g l =
    (database l.engine l.tables g.S.VersionStore l.store g.C.CommitTable l.commits
    ≡ after (database l.initial.engine l.initial.tables g.S.VersionStore l.initial.store g.C.CommitTable l.initial.commits) (take l.i l.calls))
    × (take l.i l.answers
    ≡ answers_to (database l.initial.engine l.initial.tables g.S.VersionStore l.initial.store g.C.CommitTable l.initial.commits) (take l.i l.calls))
