-- `why::why_binary` meets its contract: what there is to tell, told. Assumes nothing.
use Rattle.why.proofs.Asking.{why-done}
use Rattle.why.proofs.why_binary.Goals as goal

pub returns : goal.returns
returns c = record { why_done = why-done c.ask_binary-asked.ensures c.tell.ensures.telling; short = c.tell.ensures.short }
