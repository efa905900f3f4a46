-- `why::ask_unary` meets its contract. Assumes nothing.
use Rattle.why.proofs.Asking.{unary-asks}
use Rattle.why.proofs.ask_unary.Goals as goal

pub returns : goal.returns
returns c = unary-asks _ _ _ _ _ _ _ c.unary-answer.ensures c.unary_rule.ensures c.told_by.ensures
