-- `table::turns_of` meets its contract: it computes the definition. Assumes nothing.
use Rattle.table.specs.inner.Slots.{turns_of}
use Rattle.table.proofs.turns_of.Goals as goal

pub returns : goal.returns
unfolding turns_of
returns c = rw (c.word64-2.ensures, c.word64.ensures)
