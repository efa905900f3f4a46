use Prim.Native.Nat.{◌≤◌}
use mathlib.Core.Path.{◌≡◌}
use Rattle.table.specs.Table.{base_of}
use Rattle.table.proofs.base_of.Given as goal

abbrev pub invariant-loop-at : goal.invariant-loop-at
invariant-loop-at l = (l.at ≤ l.j) × (base_of l.words l.at ≡ base_of l.words l.j)

abbrev pub decreases-loop-at : goal.decreases-loop-at
decreases-loop-at l = l.at
