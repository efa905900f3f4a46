-- `memo::asked_row` meets its contract: the rule of a row, on as many operands as the call has. Assumes nothing.
use Rattle.memo.proofs.Asking.{neither, row-asked}
use borrow.Author.Tests.{ltb-false}
use mathlib.Core.Path.{sym, ◌∙◌, ap}
use Prim.Native.Nat.{ℕ, ◌+◌}
use Rattle.memo.proofs.asked_row.Goals as goal

pub returns : goal.returns
returns c = let a = c.args in
    let n = neither _ _ c.if-k.false in
    row-asked a.profile a.row a.k c.in-Some.field-0 _ c.wide-2.result (ltb-false _ _ n.0) (ltb-false _ _ n.1) c.if-rule-ge-RULES.false (sym c.rule_at.ensures ∙ c.in-Some.is) (ap (λ (x : ℕ). 24 + x) c.wide.ensures) c.wide-2.ensures
