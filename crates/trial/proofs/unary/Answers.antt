-- `trial::unary` meets its contract: the copy answers as the words do. Assumes nothing.
use Rattle.std.proofs.Common.{◌∙◌, rules}
use Rattle.ops_ty.specs.Ops.{unary_runs}
use Rattle.trial.proofs.Alike.{unary-copied}
use Rattle.trial.proofs.unary.Goals as goal

pub returns : goal.returns
returns c =
    let a = c.args in
    let e = c.over_copy.ensures in
    e.3 ∙ unary-copied a.words.now e.2.shown.now a.n e.2.shows (unary_runs a.a) e.0 e.2.left.now a.op a.a (search rules)
