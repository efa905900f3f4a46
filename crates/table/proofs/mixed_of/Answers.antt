-- `table::mixed_of` meets its contract: it computes the definition. Assumes nothing.
use native.Mathlib.Omega.{arith}
use Rattle.table.specs.inner.Slots.{mixed}
use Rattle.table.proofs.mixed_of.Goals as goal

pub returns : goal.returns
unfolding mixed
returns c = (rw (c.word64-4.ensures, c.word64-3.ensures, c.word64-2.ensures, c.word64.ensures), omega arith)
