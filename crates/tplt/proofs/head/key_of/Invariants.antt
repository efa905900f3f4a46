use Prim.Native.Nat.{◌≤◌}
use mathlib.Core.Path.{◌≡◌}
use lib.ListN.{length, take, drop}
use Rattle.tplt.specs.inner.Steps.{key_of}
use Rattle.tplt.proofs.head.key_of.Given as goal

abbrev pub invariant-loop-left : goal.invariant-loop-left
invariant-loop-left l = (length l.left ≤ length l.name) × (l.left ≡ take (length l.left) l.name) × (l.key ≡ key_of (drop (length l.left) l.name))

abbrev pub decreases-loop-left : goal.decreases-loop-left
decreases-loop-left l = length l.left
