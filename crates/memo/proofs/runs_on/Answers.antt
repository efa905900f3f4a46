-- `memo::runs_on` meets its contract: no mark is kept, or one of the two is there. Assumes nothing.
use Rattle.std.proofs.Common.{ap, not}
use Rattle.memo.proofs.Asking.{unkept, kept}
use Rattle.memo.proofs.runs_on.Goals as goal

pub returns-then-not-keeps : goal.returns-then-not-keeps
returns-then-not-keeps c = let a = c.args in unkept a.keeps a.runs a.args.now (ap not c.if-not-keeps.true)

pub returns : goal.returns
returns c = let a = c.args in kept a.keeps a.runs a.args.now (ap not c.if-not-keeps.false) _ c.any_running.ensures
