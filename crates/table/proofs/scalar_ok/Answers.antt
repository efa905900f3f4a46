-- `table::scalar_ok` meets its contract: it computes the definition. Assumes nothing.
use Rattle.table.proofs.scalar_ok.Goals as goal

pub returns : goal.returns
returns c = rw c.word.ensures
