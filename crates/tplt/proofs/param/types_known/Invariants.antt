use mathlib.Core.Path.{◌≡◌}
use lib.ListN.{length}
use Rattle.tplt.specs.Params.{params_of, types_known}
use Rattle.tplt.proofs.param.types_known.Given as goal

abbrev pub invariant-loop-left : goal.invariant-loop-left
invariant-loop-left l = types_known (params_of l.n l.args) ≡ types_known (params_of l.n l.left)

abbrev pub decreases-loop-left : goal.decreases-loop-left
decreases-loop-left l = length l.left
