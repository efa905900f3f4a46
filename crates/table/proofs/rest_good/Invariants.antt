use Prim.Native.Nat.{◌≤◌}
use mathlib.Core.Path.{◌≡◌}
use mathlib.Core.Bool.{true}
use Rattle.table.specs.Tools.{all_below}
use Rattle.table.specs.Table.{scalars, good_at}
use Rattle.table.specs.inner.Slots.{Knows}
use Rattle.table.proofs.rest_good.Given as goal

abbrev pub invariant-loop-i : goal.invariant-loop-i
invariant-loop-i l = (scalars ≤ l.i) × (all_below (good_at l.words) l.i ≡ true) × Knows l.words l.i l.passed.links l.passed.bases
