use mathlib.Core.Path.{◌≡◌}
use mathlib.Core.Bool.{true}
use Rattle.table.specs.Tools.{all_below}
use Rattle.table.specs.inner.Slots.{scalar_at}
use Rattle.table.proofs.scalars_stand.Given as goal

abbrev pub invariant-loop-i : goal.invariant-loop-i
invariant-loop-i l = all_below (scalar_at l.words) l.i ≡ true
