-- `weigh::rank` meets its contract. Assumes nothing.
use mathlib.Core.Path.{◌∙◌, ap}
use native.Mathlib.Omega.{arith}
use Rattle.conv.specs.Rank.{found}
use Rattle.weigh.proofs.Weighing.{cost-same, cost-other}
use Rattle.weigh.proofs.rank.Goals as goal

pub returns-then-x-p : goal.returns-then-x-p
returns-then-x-p c = ap found (cost-other _ _ (omega arith) c.requires c.if-x-p.true)

pub returns : goal.returns
returns c = c.rank.ensures ∙ ap found (cost-same _ _ (omega arith) c.requires c.if-x-p.false)
