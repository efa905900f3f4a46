-- `table::slot_of` meets its contract: it computes the definition. Assumes nothing.
use Rattle.table.specs.inner.Slots.{entry_slot}
use Rattle.table.proofs.slot_of.Goals as goal

pub returns : goal.returns
unfolding entry_slot
returns c = rw (c.folded_of.ensures.0, c.mixed_of.ensures.0)
