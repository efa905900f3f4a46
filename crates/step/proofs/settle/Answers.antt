-- `step::settle` meets its contract: a value becomes the next of the stack. Assumes nothing.
use native.Mathlib.Omega.{arith}
use Rattle.step.proofs.Effects.{settle_value, settle-silent, settle-refused}
use Rattle.step.proofs.settle.Goals as goal

pub value-requires : goal.value-requires
value-requires c = let q = (rw c.in-Value.is at c.requires.2).1 in omega (arith, q)

pub bounds-stack-base : goal.bounds-stack-base
bounds-stack-base c = let p = c.requires in let q = (rw c.in-Value.is at p.2).0 in omega (arith, p.0, q)

pub returns-in-Value : goal.returns-in-Value
returns-in-Value c = let p = c.requires in
    let q = (rw c.in-Value.is at p.2).0 in
    rw c.in-Value.is (settle_value c.args.base c.args.stack.now c.args.running c.in-Value.t c.in-Value.m c.value.result c.value.ensures (omega (arith, p.0, q)) q)

pub returns-in-NoValue : goal.returns-in-NoValue
returns-in-NoValue c = rw c.in-NoValue.is (settle-silent c.args.base c.args.stack.now c.args.running c.in-NoValue.m c.requires.1)

pub returns-in-Refused : goal.returns-in-Refused
returns-in-Refused c = rw c.in-Refused.is (settle-refused c.args.base c.args.stack.now c.args.running c.in-Refused.r)
