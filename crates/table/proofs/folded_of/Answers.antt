-- `table::folded_of` meets its contract: it computes the definition; the square of a word fits two words. Assumes nothing.
use mathlib.Core.Path.{refl}
use native.Mathlib.Omega.{arith}
use Rattle.table.proofs.SlotLaws.{square}
use Rattle.table.specs.inner.Slots.{folded}
use Rattle.table.proofs.folded_of.Goals as goal

pub overflow_mul-result : goal.overflow_mul-result
overflow_mul-result c = let s = square c.requires in omega arith

pub overflow_mul-result-2 : goal.overflow_mul-result-2
overflow_mul-result-2 c = let s = square c.requires in omega arith

pub overflow_add-result : goal.overflow_add-result
overflow_add-result c = let s = square c.requires in omega arith

pub returns : goal.returns
unfolding folded
returns c = let s = square c.requires in (refl, omega arith)
