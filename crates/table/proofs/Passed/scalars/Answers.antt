-- `table::Passed::scalars` meets its contract: no place is taken, and the loop has written each scalar. Assumes nothing.
use mathlib.Core.Path.{refl}
use native.Mathlib.Omega.{arith}
use Rattle.table.proofs.SlotLaws.{zeros, linked-none, based-scalars}
use Rattle.table.proofs.Passed.scalars.Goals as goal

pub returns : goal.returns
unfolding zeros
returns c = λ w. record {
  linked = linked-none w _ refl refl;
  based = based-scalars w c.loop-k.bases c.loop-k.invariant.0 (λ j l. c.loop-k.invariant.1 j (omega arith));
}
