-- `tplt::param::param_at` meets its contract: the pair is read as it stands. Assumes nothing.
use Prim.Native.Nat.{◌+◌}
use mathlib.Core.Path.{◌∙◌}
use lib.ListN.{get_or}
use lib.IntN.{pos}
use Rattle.tplt.proofs.SignedLaws.{pair-back}
use Rattle.tplt.proofs.param.param_at.Goals as goal

pub returns : goal.returns
returns c = let a = c.args in
    c.param_of.ensures ∙ pair-back a.n (get_or a.args.now a.at (pos 0)) (get_or a.args.now (a.at + 1) (pos 0)) c.param_of-arg-1.given c.param_of-arg-2-1.given
