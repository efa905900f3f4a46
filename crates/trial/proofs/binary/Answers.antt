-- `trial::binary` meets its contract: the copy answers as the words do. Assumes nothing.
use Rattle.std.proofs.Common.{◌∙◌, rules}
use Rattle.ops_ty.specs.Ops.{binary_runs}
use Rattle.trial.proofs.Alike.{binary-copied}
use Rattle.trial.proofs.binary.Goals as goal

pub returns : goal.returns
returns c =
    let a = c.args in
    let e = c.over_copy.ensures in
    e.3 ∙ binary-copied a.words.now e.2.shown.now a.n e.2.shows (binary_runs a.a a.b) e.0 e.2.left.now a.op a.a a.b (search rules)
