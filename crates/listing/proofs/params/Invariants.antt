use Prim.Native.Nat.{◌-◌}
use lib.ListN.{length}
use Rattle.overload.specs.Rows.{row_at}
use Rattle.listing.proofs.Walk.{Left}
use Rattle.listing.proofs.params.Given as goal

abbrev pub invariant-loop-left : goal.invariant-loop-left
invariant-loop-left l = Left l.row l.j l.k l.left

abbrev pub decreases-loop-left : goal.decreases-loop-left
decreases-loop-left l = length (row_at l.row).families - l.k
