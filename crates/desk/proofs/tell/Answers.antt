-- `desk::tell` meets its contract: what the item asks that is told, or nothing. Assumes nothing.
use Rattle.desk.proofs.Telling.{tell-nothing, tell-item, item-ready}
use Rattle.desk.proofs.tell.Goals as goal

pub item_query-requires : goal.item_query-requires
item_query-requires c = let a = c.args in let h = c.in_ok-at in (item-ready a.profile a.sheet.now _ _ h.at (rw h.was at c.stand_in.ensures)).1

pub returns-in_err-at : goal.returns-in_err-at
returns-in_err-at c = let a = c.args in rw c.from_residual.ensures (tell-nothing a.profile a.sheet.now _ _ (rw c.in_err-at.was at c.stand_in.ensures))

pub returns : goal.returns
returns c = let a = c.args in let h = c.in_ok-at in tell-item a.profile a.sheet.now _ _ h.at (rw h.was at c.stand_in.ensures) c.item_query.result c.item_query.ensures

pub invariant_of-before : goal.invariant_of-before
invariant_of-before c = let a = c.args in let h = c.in_ok-at in record { ready = (item-ready a.profile a.sheet.now _ _ h.at (rw h.was at c.stand_in.ensures)).0 }
