-- `trial::builtin` meets its contract: the copy answers as the words do. Assumes nothing.
use Rattle.std.proofs.Common.{◌∙◌, rules}
use Rattle.call_ty.specs.Calls.{builtin_runs}
use Rattle.trial.proofs.Alike.{builtin-copied}
use Rattle.trial.proofs.builtin.Goals as goal

pub returns : goal.returns
returns c =
    let a = c.args in
    let e = c.over_copy.ensures in
    e.3 ∙ builtin-copied a.words.now e.2.shown.now a.n e.2.shows (builtin_runs a.profile a.name.now a.args.now) e.0 e.2.left.now a.profile a.name.now a.tplt.now a.args.now (search rules)
