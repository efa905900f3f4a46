use Prim.Native.Nat.{◌+◌}
use mathlib.Core.Path.{◌≡◌}
use mathlib.Core.List.{map}
use lib.ListN.{drop}
use Rattle.overload.specs.inner.Code.{operand}
use Rattle.weigh.specs.Weigh.{first_miss}
use Rattle.weigh.proofs.first_miss.Given as goal

abbrev pub invariant-loop-i : goal.invariant-loop-i
invariant-loop-i l = first_miss (map operand l.ps) (map operand l.xs) ≡ l.i + first_miss (map operand (drop l.i l.ps)) (map operand (drop l.i l.xs))
