use lib.ListN.{get_or}
use mathlib.Core.Path.{◌≡◌}
use Prim.Native.Nat.{◌-◌}
use Rattle.table.proofs.SlotLaws.{Walk}
use Rattle.table.specs.inner.Slots.{places}
use Rattle.table.proofs.Passed.free_place.Given as goal

abbrev pub invariant-loop-at : goal.invariant-loop-at
invariant-loop-at l = Walk l.words l.i l.self.links l.e l.place l.turns × (l.at ≡ get_or l.self.links l.place 0)

abbrev pub decreases-loop-at : goal.decreases-loop-at
decreases-loop-at l = places - l.place
