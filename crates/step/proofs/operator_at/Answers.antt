-- `step::operator_at` meets its contract: a unary operator on one operand, a binary one on two. Assumes nothing.
use native.Mathlib.Omega.{arith}
use Rattle.ruled.proofs.Outcomes.{gave-as}
use Rattle.step.proofs.Effects.{operator-one, operator-two}
use Rattle.step.proofs.operator_at.Goals as goal

pub returns-in-len1 : goal.returns-in-len1
returns-in-len1 c =
    let a = c.args in
    gave-as (operator-one a.at.0 a.table.now a.used a.op a.args.now (omega (arith, c.in-len1.len_at_least, c.in-len1.len_below))) (rw c.wide-op.ensures at c.unary_at.ensures)

pub returns-in-len2 : goal.returns-in-len2
returns-in-len2 c =
    let a = c.args in
    gave-as (operator-two a.at.0 a.table.now a.used a.op a.args.now (omega (arith, c.in-len2.len_at_least, c.in-len2.len_below))) (rw c.wide-op.ensures at c.binary_at.ensures)
