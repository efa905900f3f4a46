use mathlib.Core.Path.{◌≡◌}
use mathlib.Core.List.{map}
use lib.ListN.{drop}
use Rattle.conv.specs.Rank.{both}
use Rattle.overload.specs.Overload.{or, no_more, less}
use Rattle.overload.specs.inner.Code.{operand}
use Rattle.weigh.proofs.beats.Given as goal

abbrev pub invariant-loop-i : goal.invariant-loop-i
invariant-loop-i l = both (no_more (map operand l.xs) (map operand l.ps) (map operand l.qs)) (less (map operand l.xs) (map operand l.ps) (map operand l.qs)) ≡ both (no_more (map operand (drop l.i l.xs)) (map operand (drop l.i l.ps)) (map operand (drop l.i l.qs))) (or l.cheaper (less (map operand (drop l.i l.xs)) (map operand (drop l.i l.ps)) (map operand (drop l.i l.qs))))
