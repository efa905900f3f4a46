use Rattle.conv.specs.Rank.{found}
use Rattle.conv.proofs.Ranks.{common-from, common-to}
use native.Mathlib.Omega.{arith}
use mathlib.Core.Path.{sym, ap}
use Rattle.conv.proofs.convert_ty.Goals as goal

pub returns-then-a-ge-PLAINS : goal.returns-then-a-ge-PLAINS
returns-then-a-ge-PLAINS c = ap found (sym (common-from _ _ c.if-a-ge-PLAINS.true))

pub returns-then-b-ge-PLAINS : goal.returns-then-b-ge-PLAINS
returns-then-b-ge-PLAINS c = ap found (sym (common-to _ _ (omega arith) c.if-b-ge-PLAINS.true))
