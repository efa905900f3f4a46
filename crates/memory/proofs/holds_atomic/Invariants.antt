use Prim.Native.Nat.{◌<◌}
use mathlib.Core.Path.{◌≡◌}
use Rattle.conv.specs.Types.{holds_atomic}
use Rattle.table.specs.Denote.{type_at}
use Rattle.memory.proofs.holds_atomic.Given as goal

abbrev pub invariant-loop-at : goal.invariant-loop-at
invariant-loop-at l = (l.at < l.n) × (holds_atomic (type_at l.words l.at) ≡ holds_atomic (type_at l.words l.t))

abbrev pub decreases-loop-at : goal.decreases-loop-at
decreases-loop-at l = l.at
