-- `sheet::finish` meets its contract: one value stands at the end, or the end is wrong. Assumes nothing.
use Prim.Native.Nat.{◌<◌, ◌≤◌}
use lib.ListN.{length}
use borrow.Author.Tests.{eq-eqb, ne_eqb}
use native.Mathlib.Omega.{arith}
use Rattle.step.proofs.StackLaws.{sized, value_in}
use Rattle.sheet.proofs.finish.Goals as goal

pub returns-then-count-eq1 : goal.returns-then-count-eq1
returns-then-count-eq1 c = let a = c.args in
    let p = c.requires in
    let fits : a.count ≤ length a.stack.now = omega (arith, p.0, p.1) in
    let one : 0 < a.count = omega (arith, c.if-count-eq1.true) in
    rw (c.marked.ensures, c.accepted.ensures.made, sized a.count a.stack.now fits, eq-eqb _ _ c.if-count-eq1.true, value_in a.count a.stack.now fits 0 one, c.number.ensures, c.running.ensures)

pub returns : goal.returns
returns c = let a = c.args in
    let p = c.requires in
    let fits : a.count ≤ length a.stack.now = omega (arith, p.0, p.1) in
    rw (c.unmarked.ensures, c.refused.ensures.made, sized a.count a.stack.now fits, ne_eqb _ _ c.if-count-eq1.false)
