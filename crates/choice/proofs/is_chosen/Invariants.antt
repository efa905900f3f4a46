use Prim.Native.Nat.{ℕ, ◌<◌}
use mathlib.Core.Path.{◌≡◌}
use mathlib.Core.Bool.{true}
use mathlib.Core.List.{map}
use Rattle.overload.specs.Rows.{row_at}
use Rattle.overload.specs.inner.Code.{operand}
use Rattle.listing.specs.Listing.{overload_at}
use Rattle.choice.specs.inner.Chosen.{stands_back}
use Rattle.choice.proofs.is_chosen.Given as goal

abbrev pub invariant-loop-j : goal.invariant-loop-j
invariant-loop-j l = (k : ℕ) → k < l.j → stands_back l.running (map operand l.xs) (overload_at (row_at l.row) l.i) (overload_at (row_at l.row) k) ≡ true
