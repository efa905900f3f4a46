-- `memo::asked` meets its contract: an operator asks by its number, a call by its name. Assumes nothing.
use Rattle.memo.proofs.MemoLaws.{unhinted}
use Rattle.frame.specs.inner.Items.{sheet_in}
use Rattle.memo.proofs.asked.Goals as goal

pub returns-in-Unary : goal.returns-in-Unary
returns-in-Unary c = let a = c.args in rw c.in-Unary.is (c.asked_unary.ensures a.profile (sheet_in a.items), unhinted a.memo.now.slots)

pub returns-in-Binary : goal.returns-in-Binary
returns-in-Binary c = let a = c.args in rw c.in-Binary.is (c.asked_binary.ensures a.profile (sheet_in a.items), unhinted a.memo.now.slots)
