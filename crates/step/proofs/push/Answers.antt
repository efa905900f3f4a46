-- `step::push` meets its contract: 2 before 11, else one value more. Assumes nothing.
use Rattle.step.proofs.Effects.{refusing, push-unknown, push-full, push-does}
use Rattle.answer.specs.declared.Reason.TheVariants.{NoSuchType, Stack}
use native.Mathlib.Omega.{arith}
use Rattle.step.proofs.push.Goals as goal

pub returns-then-used-index : goal.returns-then-used-index
returns-then-used-index c = let a = c.args in
    refusing a.at a.count a.stack.now a.used a.table.now NoSuchType c.stopped.ensures (push-unknown a.at a.count a.stack.now a.used a.table.now c.requires a.ty.0 a.running c.if-used-index.true)

pub returns-then-count-ge-VALUES : goal.returns-then-count-ge-VALUES
returns-then-count-ge-VALUES c = let a = c.args in
    refusing a.at a.count a.stack.now a.used a.table.now Stack c.stopped-then-count-ge-VALUES.ensures (push-full a.at a.count a.stack.now a.used a.table.now c.requires a.ty.0 a.running c.if-used-index.false c.if-count-ge-VALUES.true)

pub value-requires : goal.value-requires
value-requires c = let l = c.requires.good.sound.high in let h = c.if-used-index.false in omega arith

pub returns : goal.returns
returns c = let a = c.args in
    push-does a.at a.count a.stack.now a.used a.table.now c.requires a.ty.0 a.running c.value.result c.value.ensures c.if-used-index.false c.if-count-ge-VALUES.false
