-- `weigh::beats` meets its contract. The loop's invariant: what is left decides, with whether one of those passed costs less. Assumes nothing.
use mathlib.Core.Path.{refl, sym, ◌∙◌}
use native.Mathlib.Omega.{arith}
use Rattle.overload.specs.Overload.{or}
use Rattle.weigh.proofs.Weighing.{beats-not, beats-on, beats-end}
use Rattle.weigh.proofs.beats.Goals as goal

pub loop-i-init : goal.loop-i-init
unfolding or
loop-i-init c = refl

pub cost-a-requires : goal.cost-a-requires
cost-a-requires c = c.requires.0 c.loop-i.i (omega (arith, c.requires.2))

pub cost-b-requires : goal.cost-b-requires
cost-b-requires c = c.requires.1 c.loop-i.i (omega (arith, c.requires.3))

pub returns-then-b-a : goal.returns-then-b-a
returns-then-b-a c = let a = c.args in let p = c.requires in let l = c.loop-i in sym (l.invariant ∙ beats-not a.xs.now a.ps.now a.qs.now l.i c.loop-i-test.true (omega (arith, p.2)) (omega (arith, p.3)) l.cheaper (omega (arith, c.cost-b.ensures, c.cost-a.ensures)))

pub loop-i-preserved : goal.loop-i-preserved
loop-i-preserved c = let a = c.args in let p = c.requires in let l = c.loop-i in (l.invariant ∙ beats-on a.xs.now a.ps.now a.qs.now l.i c.loop-i-test.true (omega (arith, p.2)) (omega (arith, p.3)) l.cheaper (omega (arith, c.cost-b.ensures, c.cost-a.ensures)) ∙ rw (c.cost-b.ensures, c.cost-a.ensures))

pub returns : goal.returns
returns c = let a = c.args in let l = c.loop-i in sym (l.invariant ∙ beats-end a.xs.now a.ps.now a.qs.now l.i l.cheaper (omega arith))
