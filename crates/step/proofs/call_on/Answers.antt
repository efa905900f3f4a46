-- `step::call_on` meets its contract: the last values leave the stack as the operands, and the answer is put in their place where that has room for its value.
-- Assumes nothing.
use Prim.Native.Nat.{◌-◌}
use mathlib.Core.Bool.{Bool, ◌&&◌}
use mathlib.Core.Path.{sym, ◌∙◌, ap}
use native.Mathlib.Omega.{arith}
use lib.Dec.{leb}
use Rattle.step.proofs.Items.{args-under, call-pushes, call-does, call-full}
use Rattle.step.proofs.call_on.Goals as goal

pub call_at-r-requires : goal.call_at-r-requires
call_at-r-requires c = let a = c.args in
    let p = c.requires in
    (p.0.good.sound, p.1, args-under a.at a.count a.stack.now a.used a.table.now p.0 a.k p.2)

pub returns-then-base-is_valued : goal.returns-then-base-is_valued
returns-then-base-is_valued c =
    let a = c.args in
    let p = c.requires in
    call-full a.at a.count a.stack.now a.used a.table.now p.0 a.k p.2 a.keeps a.profile a.name.now a.tplt.now p.1 c.call_at-r.ensures
    (ap (λ (b : Bool). leb 64 (a.count - a.k) && b) (sym c.is_valued.ensures) ∙ c.if-base-is_valued.true) c.stopped.ensures

pub settle-requires : goal.settle-requires
settle-requires c =
    let a = c.args in
    let p = c.requires in
    (p.0.size, omega (arith, p.0.fits), call-pushes a.at a.count a.stack.now a.used a.table.now p.0 a.k p.2 a.keeps a.profile a.name.now a.tplt.now p.1 c.call_at-r.ensures (ap (λ (b : Bool). leb 64 (a.count - a.k) && b) (sym c.is_valued.ensures) ∙ c.if-base-is_valued.false))

pub returns : goal.returns
returns c =
    let a = c.args in
    let p = c.requires in
    call-does a.at a.count a.stack.now a.used a.table.now p.0 a.k p.2 a.keeps a.profile a.name.now a.tplt.now p.1 c.call_at-r.ensures
    (ap (λ (b : Bool). leb 64 (a.count - a.k) && b) (sym c.is_valued.ensures) ∙ c.if-base-is_valued.false) c.settle.ensures
