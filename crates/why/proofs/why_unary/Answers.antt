-- `why::why_unary` meets its contract: what there is to tell, told. Assumes nothing.
use Rattle.why.proofs.Asking.{why-done}
use Rattle.why.proofs.why_unary.Goals as goal

pub returns : goal.returns
returns c = record { why_done = why-done c.ask_unary-asked.ensures c.tell.ensures.telling; short = c.tell.ensures.short }
