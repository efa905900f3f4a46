-- `step::operator` meets its contract: 11 where values lack; else the last values leave the stack as the operands, and the answer is put in their place, with the mark that is
-- kept. Assumes nothing.
use native.Mathlib.Omega.{arith}
use mathlib.Core.Path.{ap}
use mathlib.Core.Bool.{Bool, ◌&&◌}
use Rattle.answer.specs.declared.Reason.TheVariants.{Stack}
use Rattle.step.proofs.Effects.{refusing, lent-many, operator-short}
use Rattle.step.proofs.Items.{args-under, operator-pushes, operator-does}
use Rattle.step.proofs.operator.Goals as goal

pub returns-then-count-k : goal.returns-then-count-k
returns-then-count-k c =
    let a = c.args in
    refusing a.at a.count a.stack.now a.used a.table.now Stack c.stopped.ensures (operator-short a.at a.count a.stack.now a.used a.table.now c.requires.0 a.keeps a.k a.op c.requires.1 c.if-count-k.true)

pub operator_at-r-requires : goal.operator_at-r-requires
operator_at-r-requires c =
    let a = c.args in
    let n = lent-many a.at a.count a.stack.now a.used a.table.now c.requires.0 a.k c.if-count-k.false in
    (c.requires.0.good.sound, args-under a.at a.count a.stack.now a.used a.table.now c.requires.0 a.k c.if-count-k.false, (omega (arith, n, c.requires.1.0), omega (arith, n, c.requires.1.1)))

pub settle-requires : goal.settle-requires
settle-requires c =
    let a = c.args in
    (c.requires.0.size, omega (arith, c.requires.0.fits), operator-pushes a.at a.count a.stack.now a.used a.table.now c.requires.0 a.k c.if-count-k.false a.op c.requires.1 c.operator_at-r.ensures)

pub returns : goal.returns
returns c =
    let a = c.args in
    operator-does a.at a.count a.stack.now a.used a.table.now c.requires.0 a.k c.if-count-k.false a.op c.requires.1 c.operator_at-r.ensures a.keeps _ (ap (λ (b : Bool). a.keeps && b) c.any_running.ensures) c.settle.ensures
