-- `desk::find` meets its contract: before every turn, what is left of the items tells what the whole sheet tells. Assumes nothing.
use mathlib.Core.Path.{◌∙◌, sym}
use native.Mathlib.Omega.{arith}
use Rattle.frame.specs.inner.Items.{sheet_in}
use Rattle.frame.proofs.Parts.{whole_length, name_in}
use Rattle.desk.proofs.Finding.{left-start, found, left-again, left_less, left_over}
use Rattle.desk.proofs.find.Goals as goal

pub loop-a-init : goal.loop-a-init
loop-a-init c = let a = c.args in left-start a.profile (sheet_in a.items) a.a a.table.now a.used a.stack.now c.requires.0 c.requires.1

pub returns-then-is_told : goal.returns-then-is_told
returns-then-is_told c = let a = c.args in
    let l = c.loop-a in
    let s = sheet_in a.items in
    found a.profile s a.a a.table.now a.used l.table l.stack l.count l.used l.at l.invariant c.item-placed.result c.item-placed.ensures
    (rw (whole_length a.items.version a.items.bytes.now) (sym c.is_told.ensures ∙ c.if-is_told.true))

pub step-requires : goal.step-requires
step-requires c = let a = c.args in (c.loop-a.invariant.ready, rw c.item-placed.ensures (name_in a.items.version a.items.bytes.now c.loop-a.at))

pub loop-a-smaller : goal.loop-a-smaller
loop-a-smaller c = let a = c.args in
    let l = c.loop-a in
    let s = sheet_in a.items in
    let f = left_less a.profile s a.a a.table.now a.used l.table l.stack l.count l.used l.at l.invariant c.item-placed.result c.item-placed.ensures
    (rw (whole_length a.items.version a.items.bytes.now) (sym c.is_told.ensures ∙ c.if-is_told.false)) _ _ c.in-Went.c c.in-Went.u (rw c.in-Went.is at c.step.ensures) in
    omega (arith, f.0, f.1)

pub loop-a-preserved : goal.loop-a-preserved
loop-a-preserved c = let a = c.args in
    let l = c.loop-a in
    let s = sheet_in a.items in
    left-again a.profile s a.a a.table.now a.used l.table l.stack l.count l.used l.at l.invariant c.item-placed.result c.item-placed.ensures
    (rw (whole_length a.items.version a.items.bytes.now) (sym c.is_told.ensures ∙ c.if-is_told.false)) _ _ c.in-Went.c c.in-Went.u (rw c.in-Went.is at c.step.ensures) c.step.auto.stack c.step.auto.table

pub returns-in_default : goal.returns-in_default
returns-in_default c = let a = c.args in
    let l = c.loop-a in
    let s = sheet_in a.items in
    left_over a.profile s a.a a.table.now a.used l.table l.stack l.count l.used l.at l.invariant c.item-placed.result c.item-placed.ensures
    (rw (whole_length a.items.version a.items.bytes.now) (sym c.is_told.ensures ∙ c.if-is_told.false)) _ _ c.step.result c.in_default.not-Went c.step.ensures
