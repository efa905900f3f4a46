-- `memo::quick_push` meets its contract: the number becomes one value more. Assumes nothing.
use Rattle.memo.proofs.QuickLaws.{quick-push}
use Rattle.memo.proofs.quick_push.Goals as goal

pub returns : goal.returns
returns c = let a = c.args in quick-push a.count a.stack.now a.used a.table.now c.requires a.t a.running c.value.result c.value.ensures c.if-used-t.false c.if-count-ge-VALUES.false
