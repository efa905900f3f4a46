-- `table::is_sized` meets its contract: it computes the definition. Assumes nothing.
use Rattle.table.proofs.is_sized.Goals as goal

pub returns : goal.returns
returns c = rw c.is_stored.ensures
