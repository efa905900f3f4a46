-- `sheet::leave` meets its contract: a call without value is the last item over an empty stack, or misplaced. Assumes nothing.
use mathlib.Core.Path.{◌∙◌}
use native.Mathlib.Omega.{arith}
use Rattle.sheet.proofs.Turning.{left-high, left-early, left-last}
use Rattle.sheet.proofs.leave.Goals as goal

pub returns-then-count-ne0 : goal.returns-then-count-ne0
returns-then-count-ne0 c = let a = c.args in c.refused.ensures.made ∙ left-high a.size a.at.0 a.next.0 a.count a.used c.if-count-ne0.true

pub returns-then-next-size : goal.returns-then-next-size
returns-then-next-size c = let a = c.args in
    c.no_value.ensures.made ∙ left-last a.size a.at.0 a.next.0 a.count a.used (omega (arith, c.if-count-ne0.false)) (omega (arith, c.if-next-size.true))

pub returns : goal.returns
returns c = let a = c.args in
    c.refused-2.ensures.made ∙ left-early a.size a.at.0 a.next.0 a.count a.used c.if-count-ne0.false c.if-next-size.false
