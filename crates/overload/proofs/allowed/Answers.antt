-- `overload::allowed` meets its contract. Assumes nothing.
use Rattle.overload.proofs.Sets.{has_all}
use Rattle.overload.proofs.allowed.Goals as goal

pub returns-in-None : goal.returns-in-None
returns-in-None c = λ t h. rw c.in-None.is (has_all t h)
