use Prim.Native.Nat.{ℕ, ◌<◌}
use mathlib.Core.Bool.{false}
use mathlib.Core.Path.{◌≡◌}
use lib.ListN.{length, get_or}
use Rattle.conv.specs.Rank.{is_reference}
use Rattle.overload.specs.inner.Code.{code_of}
use Rattle.table.specs.Denote.{type_at}
use Rattle.call_ty.specs.Calls.{numbers}
use Rattle.call_ty.proofs.load.Given as goal

abbrev pub invariant-loop-i : goal.invariant-loop-i
invariant-loop-i g l = (length l.codes ≡ g.row.N) × ((k : ℕ) → k < l.i → get_or l.codes k 0 ≡ code_of (type_at l.words (get_or (numbers l.args) k 0))) × ((k : ℕ) → k < l.i → is_reference (type_at l.words (get_or (numbers l.args) k 0)) ≡ false)
