-- `memo::noted_step` meets its contract: what is recalled is what typing gives, and what typing gave is noted. Assumes nothing.
use mathlib.Core.Path.{◌∙◌}
use Rattle.frame.specs.inner.Items.{sheet_in}
use Rattle.memo.specs.inner.Memo.{AfterStep}
use Rattle.memo.proofs.MemoLaws.{recalls-hinted}
use Rattle.memo.proofs.Asking.{ready-small, recalls-step, recalled-does, step-leaves, step-noted}
use Rattle.memo.proofs.noted_step.Goals as goal

pub item_key-requires : goal.item_key-requires
item_key-requires c = let a = c.args in (c.requires.1, ready-small a.count a.stack.now a.used a.table.now c.requires.0)

pub returns-in_default : goal.returns-in_default
returns-in_default c = let a = c.args in
    let p = c.requires in
    (c.step.ensures, recalls-step a.profile a.count a.stack.now a.used a.table.now p.0 (sheet_in a.items) a.item a.at.0 c.step.result _ _ _ c.step.ensures (recalls-hinted a.memo.now.slots a.table.now a.used _ p.2 c.item_key.ensures.1))

pub returns-in-Some-recall : goal.returns-in-Some-recall
unfolding AfterStep
returns-in-Some-recall c = let a = c.args in
    let p = c.requires in
    let q = c.in-Some.ensures.0 in
    let r = recalls-hinted a.memo.now.slots a.table.now a.used _ p.2 c.item_key.ensures.1 in
    (recalled-does a.profile a.count a.stack.now a.used a.table.now p.0 (sheet_in a.items) a.item q.ask c.in-Some.key q.asks q.keyed _ r c.in-Some-recall.t c.in-Some-recall.ensures c.value.result c.value.ensures a.at.0, r)

pub note_did-requires : goal.note_did-requires
note_did-requires c = let a = c.args in
    let p = c.requires in
    let q = c.in-Some.ensures.0 in
    step-leaves a.profile a.count a.stack.now a.used a.table.now p.0 (sheet_in a.items) a.item q.ask c.in-Some.key q.asks q.keyed a.at.0 _ _ (c.step-d.auto.stack ∙ p.0.size) c.step-d.result c.step-d.ensures

pub returns : goal.returns
returns c = let a = c.args in
    let p = c.requires in
    let q = c.in-Some.ensures.0 in
    let r = recalls-hinted a.memo.now.slots a.table.now a.used _ p.2 c.item_key.ensures.1 in
    let d = c.step-d in
    (d.ensures, step-noted a.profile a.count a.stack.now a.used a.table.now p.0 (sheet_in a.items) a.item q.ask c.in-Some.key q.asks q.keyed a.at.0 _ _ (d.auto.stack ∙ p.0.size) _ _ r d.result d.ensures c.note_did.ensures)
