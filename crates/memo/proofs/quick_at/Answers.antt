-- `memo::quick_at` meets its contract: the item at the place is the short one, and the version says whether marks are kept. Assumes nothing.
use mathlib.Core.Path.{sym, ◌∙◌}
use Rattle.frame.specs.inner.Items.{sheet_in}
use Rattle.memo.proofs.QuickLaws.{quick-there}
use Rattle.memo.proofs.quick_at.Goals as goal

pub returns : goal.returns
returns c = let a = c.args in
    quick-there (sheet_in a.items) a.at.0 c.has_marks.result (sym c.has_marks.ensures) c.in_ok-x.x a.count a.stack.now a.used a.table.now c.in_ok-left.left _ (sym c.in_ok-x.was ∙ c.short.ensures) c.in_ok-left.ensures
