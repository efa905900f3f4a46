use Prim.Native.Nat.{◌-◌}
use lib.ListN.{length}
use Rattle.frame.specs.inner.Items.{sheet_in}
use Rattle.desk.proofs.Finding.{Left}
use Rattle.desk.proofs.find.Given as goal

abbrev pub invariant-loop-a : goal.invariant-loop-a
invariant-loop-a l = Left l.profile (sheet_in l.items) l.a l.initial.table l.used-2 l.table l.stack l.count l.used l.at

abbrev pub decreases-loop-a : goal.decreases-loop-a
decreases-loop-a l = length (sheet_in l.items) - l.at
