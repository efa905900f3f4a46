use lib.ListN.{length}
use Prim.Native.Nat.{◌-◌}
use Rattle.frame.specs.inner.Items.{sheet_in}
use Rattle.sheet.specs.inner.Code.{Rushes}
use Rattle.sheet.proofs.rush.Given as goal

abbrev pub invariant-loop-went : goal.invariant-loop-went
invariant-loop-went l = Rushes (sheet_in l.items) l.initial.here.at.0 l.initial.here.count l.initial.stack l.initial.here.used l.table l.here l.stack

abbrev pub decreases-loop-went : goal.decreases-loop-went
decreases-loop-went l = length (sheet_in l.items) - l.here.at.0
