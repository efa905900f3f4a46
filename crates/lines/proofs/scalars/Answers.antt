-- `lines::scalars` meets its contract: both sides compute. Assumes nothing.
use Rattle.table.specs.Enter.{with_scalars}
use Rattle.lines.proofs.scalars.Goals as goal

pub returns : goal.returns
unfolding with_scalars
returns c = c.put_scalars.ensures
