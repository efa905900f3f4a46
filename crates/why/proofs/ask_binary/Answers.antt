-- `why::ask_binary` meets its contract. Assumes nothing.
use Rattle.why.proofs.Asking.{binary-asks}
use Rattle.why.proofs.ask_binary.Goals as goal

pub returns : goal.returns
returns c = binary-asks _ _ _ _ _ _ _ _ c.binary-answer.ensures c.binary_rule.ensures c.told_by.ensures
