-- `memo::hint_of` meets its contract: a place among the hints. Assumes nothing.
use lib.ListN.{length}
use Prim.Native.Nat.{◌-◌, ◌/◌}
use native.Mathlib.Omega.{arith}
use Rattle.memo.proofs.hint_of.Goals as goal

pub overflow_mul-ends : goal.overflow_mul-ends
overflow_mul-ends c = record { fits = omega (arith, c.wide.ensures, c.shared_slice_known-1.given 0) }

pub overflow_mul-ends-2 : goal.overflow_mul-ends-2
overflow_mul-ends-2 c = let s = c.args.name.now in record { fits = omega (arith, c.wide-2.ensures, c.shared_slice_known-1.given (length s - 1)) }

pub overflow_add-ends : goal.overflow_add-ends
overflow_add-ends c = let s = c.args.name.now in record { fits = omega (arith, c.wide-2.ensures, c.wide.ensures, c.shared_slice_known-1.given (length s - 1), c.shared_slice_known-1.given 0) }

pub overflow_mul-mix : goal.overflow_mul-mix
overflow_mul-mix c = let s = c.args.name.now in record { fits = omega (arith, c.wide-3.ensures, c.shared_slice_known-1.given (length s / 2)) }

pub overflow_add-mix : goal.overflow_add-mix
overflow_add-mix c = let s = c.args.name.now in record { fits = omega (arith, c.wide-3.ensures, c.wide-2.ensures, c.wide.ensures, c.shared_slice_known-1.given (length s / 2), c.shared_slice_known-1.given (length s - 1), c.shared_slice_known-1.given 0) }

pub overflow_add-mix-2 : goal.overflow_add-mix-2
overflow_add-mix-2 c = let s = c.args.name.now in record { fits = omega (arith, c.wide-3.ensures, c.wide-2.ensures, c.wide.ensures, c.shared_slice_known-1.given (length s / 2), c.shared_slice_known-1.given (length s - 1), c.shared_slice_known-1.given 0) }
