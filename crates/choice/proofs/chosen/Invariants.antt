use Prim.Native.Nat.{ℕ, ◌<◌}
use mathlib.Core.Path.{◌≡◌}
use mathlib.Core.Bool.{false}
use mathlib.Core.List.{map}
use Rattle.overload.specs.Rows.{row_at}
use Rattle.overload.specs.inner.Code.{operand}
use Rattle.listing.specs.Listing.{overload_at}
use Rattle.choice.specs.inner.Chosen.{chosen_by}
use Rattle.choice.proofs.chosen.Given as goal

abbrev pub invariant-loop-i : goal.invariant-loop-i
invariant-loop-i l = (k : ℕ) → k < l.i → chosen_by l.running (row_at l.row) (map operand l.xs) (overload_at (row_at l.row) k) ≡ false
