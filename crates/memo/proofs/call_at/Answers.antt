-- `memo::call_at` meets its contract: the call at the place asks, and what the memo has for it is what typing gives. Assumes nothing.
use lib.ListN.{length}
use mathlib.Core.Path.{sym, ◌∙◌, ap, subst}
use Rattle.frame.proofs.Parts.{name_in}
use Rattle.frame.specs.inner.Items.{sheet_in, NameIn}
use Rattle.frame.specs.declared.Item.{Item}
use Rattle.frame.specs.declared.Placed.{Placed}
use Rattle.memo.proofs.QuickLaws.{call-after, call-there}
use Rattle.memo.proofs.call_at.Goals as goal

pub asked_again-requires : goal.asked_again-requires
asked_again-requires c = let i = c.args.items in
    let x = c.item-found in
    subst (λ (y : Item). NameIn (length i.bytes.now) y) (ap (λ (y : Placed). y.item) (sym x.ensures) ∙ c.in-Call.is) (name_in i.version i.bytes.now c.args.at.0)

pub overflow_sub-result : goal.overflow_sub-result
overflow_sub-result c = let a = c.args in
    let x = c.item-found in
    call-after c.has_marks.result c.in_ok-ask.ask a.count a.stack.now a.used a.table.now c.in_ok-stand.stand _ c.in_ok-stand.ensures a.profile (sheet_in a.items) a.at.0 _ _ x.result x.ensures c.in-Call.is

pub returns : goal.returns
returns c = let a = c.args in
    let x = c.item-found in
    call-there c.has_marks.result c.in_ok-ask.ask a.count a.stack.now a.used a.table.now c.in_ok-stand.stand _ c.in_ok-stand.ensures a.profile (sheet_in a.items) a.at.0 _ _ x.result x.ensures c.in-Call.is c.in_ok-ask.ensures (sym c.has_marks.ensures)
