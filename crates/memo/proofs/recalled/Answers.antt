-- `memo::recalled` meets its contract: a type that the memo has is the one that typing gives. Assumes nothing.
use Rattle.memo.proofs.Asking.{ready-small}
use Rattle.memo.proofs.QuickLaws.{recalled-answers}
use Rattle.memo.proofs.recalled.Goals as goal

pub keyed-requires : goal.keyed-requires
keyed-requires c = let a = c.args in ready-small a.count a.stack.now a.used a.table.now c.requires.0

pub returns : goal.returns
returns c = let a = c.args in
    let p = c.requires in
    recalled-answers a.count a.stack.now a.used a.table.now p.0 a.memo.now.slots p.1 a.keeps a.ask c.in_ok-key.key c.in_ok-key.ensures c.in_ok-t.t c.value.result c.in_ok-t.ensures c.value.ensures
