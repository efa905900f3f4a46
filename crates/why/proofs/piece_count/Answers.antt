-- `why::piece_count` meets its contract, case by case of what is asked. Assumes nothing.
use Rattle.why.proofs.Asking.{count-told, count-nothing, count-refused}
use Rattle.why.proofs.piece_count.Goals as goal

pub returns-in-Ok-Some-clause-by_index : goal.returns-in-Ok-Some-clause-by_index
returns-in-Ok-Some-clause-by_index c = let h = c.in-Ok-Some in count-told h.is (rw h.is at h.field-0-is) c.count.ensures.0

pub returns-in-Ok-None-clause-by_index : goal.returns-in-Ok-None-clause-by_index
returns-in-Ok-None-clause-by_index c = let h = c.in-Ok-None in count-nothing h.is (rw h.is at h.field-0-is)

pub returns-in-Err-clause-by_index : goal.returns-in-Err-clause-by_index
returns-in-Err-clause-by_index c = count-refused c.in-Err.is
