-- `memo::quick` meets its contract: a push goes, and an operator by what it asks. Assumes nothing.
use Rattle.std.proofs.Common.{Some}
use Rattle.frame.specs.inner.Items.{item_of}
use Rattle.memo.specs.inner.Asking.{AsksEver}
use Rattle.memo.proofs.QuickLaws.{quick-answered}
use Rattle.memo.proofs.quick.Goals.{in-Unary+in_ok-ask-in-Unary, in-Binary+in_ok-ask-in-Binary}
use Rattle.memo.proofs.quick.Goals as goal

pub returns-in-Push : goal.returns-in-Push
returns-in-Push c = rw c.in-Push.is (c.quick_push.ensures c.args.keeps)

pub returns : goal.returns
unfolding item_of
returns c = let a = c.args in
    let asks : AsksEver (item_of a.x) (Some c.match-x.ask) = elim c.match-x.branch [
      | in-Unary+in_ok-ask-in-Unary w ↦ rw (w.in-Unary.is, w.ask-is) w.in_ok-ask-in-Unary.ensures
      | in-Binary+in_ok-ask-in-Binary w ↦ rw (w.in-Binary.is, w.ask-is) w.in_ok-ask-in-Binary.ensures
    ] in
    quick-answered a.keeps c.match-x.ask a.count a.stack.now a.used a.table.now c.recalled.result _ a.x asks c.recalled.ensures
