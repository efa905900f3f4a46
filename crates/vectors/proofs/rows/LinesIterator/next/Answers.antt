-- The next line, and what is left behind its end. Assumes nothing.
use Rattle.std.proofs.Common.{rules}
use Rattle.vectors.proofs.LineLaws.{next_line, none_left, fewer}
use Rattle.vectors.proofs.rows.LinesIterator.next.Goals as goal

pub returns-in_err-behind-clause-steps : goal.returns-in_err-behind-clause-steps
returns-in_err-behind-clause-steps c =
    let h = none_left _ c.in_err-behind.ensures.cases in
    rw c.from_residual.ensures (h, h)

pub returns-clause-steps : goal.returns-clause-steps
returns-clause-steps c = next_line _ _ _ c.in_ok-behind.ensures.cases.0 _ c.line_end-end.ensures.value _ c.min.ensures

pub returns-clause-goes : goal.returns-clause-goes
returns-clause-goes c =
    let h = fewer (next_line _ _ _ c.in_ok-behind.ensures.cases.0 _ c.line_end-end.ensures.value _ c.min.ensures) in
    search (rules, h)
