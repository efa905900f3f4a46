-- `memo::item_key` meets its contract: the key of what the item asks. Assumes nothing.
use Rattle.frame.specs.inner.Items.{sheet_in}
use Rattle.memo.proofs.Asking.{item-keyed}
use Rattle.memo.proofs.item_key.Goals as goal

pub returns : goal.returns
returns c = let a = c.args in
    let q = c.in_ok-ask.ensures in
    (item-keyed a.profile (sheet_in a.items) a.item a.count a.stack.now c.in_ok-ask.ask q.0 c.has_marks.result c.has_marks.ensures c.keyed.result c.keyed.ensures, q.1)
