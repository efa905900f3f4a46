-- `vectors::fill` meets its contract. The loop's invariant: the types below i are entered. Assumes nothing.
use Rattle.std.proofs.Common.{arith}
use Rattle.vectors.proofs.FillLaws.{none_yet, one_more, all_in}
use Rattle.vectors.proofs.fill.Goals as goal

pub loop-i-init : goal.loop-i-init
loop-i-init c = none_yet _

pub loop-i-preserved : goal.loop-i-preserved
loop-i-preserved c = one_more _ _ _ _ c.loop-i.invariant _ c.entry_of.ensures _ _ c.enter_type.ensures _ c.used_of-used.ensures

pub returns : goal.returns
returns c = all_in _ _ _ _ c.loop-i.invariant (omega arith)
