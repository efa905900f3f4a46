use Prim.Native.Nat.{◌+◌}
use mathlib.Core.Path.{◌≡◌}
use mathlib.Core.List.{map}
use lib.ListN.{drop}
use Rattle.conv.specs.Types.{abstract_ty}
use Rattle.overload.specs.inner.Code.{operand}
use Rattle.weigh.specs.Weigh.{first_by}
use Rattle.weigh.proofs.first_abstract.Given as goal

abbrev pub invariant-loop-i : goal.invariant-loop-i
invariant-loop-i l = first_by abstract_ty (map operand l.ps) ≡ l.i + first_by abstract_ty (map operand (drop l.i l.ps))
