use lib.ListN.{length}
use Prim.Native.Nat.{◌-◌}
use Rattle.frame.specs.inner.Items.{sheet_in}
use Rattle.memo.specs.inner.Memo.{Recalls}
use Rattle.sheet.proofs.Running.{Left}
use Rattle.sheet.proofs.run_on.Given as goal

abbrev pub invariant-loop-next : goal.invariant-loop-next
invariant-loop-next l = Left l.profile (sheet_in l.items) l.initial.table l.used l.table l.stack l.here.count l.here.used l.here.at.0 × Recalls l.memo.slots l.table l.here.used

abbrev pub decreases-loop-next : goal.decreases-loop-next
decreases-loop-next l = length (sheet_in l.items) - l.here.at.0
