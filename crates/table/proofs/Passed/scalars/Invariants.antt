use lib.ListN.{length, get_or}
use mathlib.Core.Path.{◌≡◌}
use Prim.Native.Nat.{ℕ, ◌<◌}
use Rattle.table.specs.Table.{ceiling}
use Rattle.table.proofs.Passed.scalars.Given as goal

abbrev pub invariant-loop-k : goal.invariant-loop-k
invariant-loop-k l = (length l.bases ≡ ceiling) × ((j : ℕ) → j < l.k → get_or l.bases j 0 ≡ j)
