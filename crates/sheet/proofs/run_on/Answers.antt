-- `sheet::run_on` meets its contract: before every turn, what is left of the items gives what the whole items gives. Assumes nothing.
use native.Mathlib.Omega.{arith}
use Rattle.frame.specs.inner.Items.{sheet_in}
use Rattle.sheet.specs.inner.Code.{AfterTurn}
use Rattle.sheet.proofs.Running.{left-start, left-rushed, left-again, left_less, left-done}
use Rattle.sheet.proofs.run_on.Goals as goal

pub loop-next-init : goal.loop-next-init
loop-next-init c = let a = c.args in (left-start a.profile (sheet_in a.items) a.table.now a.used a.stack.now c.requires.0 c.requires.1, c.requires.2)

pub rush_calls-left-requires : goal.rush_calls-left-requires
rush_calls-left-requires c = let i = c.loop-next.invariant in (i.0.ready, i.1)

pub one_turn-requires : goal.one_turn-requires
one_turn-requires c = let r = c.rush_calls-left.ensures in (r.ready, rw r.same c.loop-next.invariant.1)

pub loop-next-smaller : goal.loop-next-smaller
loop-next-smaller c = let a = c.args in
    let l = c.loop-next in
    let r = c.rush_calls-left in
    let h = l.here in
    let L = left-rushed a.profile (sheet_in a.items) a.table.now a.used l.table l.stack h.count h.used h.at.0 l.invariant.0 _ r.result r.ensures in
    let f = left_less a.profile (sheet_in a.items) a.table.now a.used l.table _ r.result.count r.result.used r.result.at.0 L _ _ c.in-Continue.next (rw c.in-Continue.is at c.one_turn.ensures.0) in
    omega (arith, f.0, f.1, r.ensures.onward)

pub loop-next-preserved : goal.loop-next-preserved
unfolding AfterTurn
loop-next-preserved c = let a = c.args in
    let l = c.loop-next in
    let r = c.rush_calls-left in
    let h = l.here in
    let L = left-rushed a.profile (sheet_in a.items) a.table.now a.used l.table l.stack h.count h.used h.at.0 l.invariant.0 _ r.result r.ensures in
    (left-again a.profile (sheet_in a.items) a.table.now a.used l.table _ r.result.count r.result.used r.result.at.0 L _ _ c.in-Continue.next (rw c.in-Continue.is at c.one_turn.ensures.0) c.one_turn.auto.stack c.one_turn.auto.table, rw c.in-Continue.is at c.one_turn.ensures.1)

pub returns-in-Break : goal.returns-in-Break
returns-in-Break c = let a = c.args in
    let l = c.loop-next in
    let r = c.rush_calls-left in
    let h = l.here in
    let L = left-rushed a.profile (sheet_in a.items) a.table.now a.used l.table l.stack h.count h.used h.at.0 l.invariant.0 _ r.result r.ensures in
    left-done a.profile (sheet_in a.items) a.table.now a.used l.table _ r.result.count r.result.used r.result.at.0 L _ _ c.in-Break.a (rw c.in-Break.is at c.one_turn.ensures.0)
