-- `why::unary_rule` meets its contract. Assumes nothing.
use native.Mathlib.Omega.{arith}
use Rattle.why.proofs.Rules.{unary-first, unary-second, unary-third, unary-address, unary-indirection}
use Rattle.why.proofs.unary_rule.Goals as goal

pub returns-in-0 : goal.returns-in-0
returns-in-0 c = unary-first _ c.in-0.is

pub returns-in-1 : goal.returns-in-1
returns-in-1 c = unary-second _ c.in-1.is

pub returns-in-3 : goal.returns-in-3
returns-in-3 c = unary-address _ c.in-3.is

pub returns-in-4 : goal.returns-in-4
returns-in-4 c = unary-indirection _ c.in-4.is

pub returns-in_default : goal.returns-in_default
returns-in_default c = λ h. unary-third _ (omega (arith, h))
