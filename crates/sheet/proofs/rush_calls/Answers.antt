-- `sheet::rush_calls` meets its contract: after quick items and a call that the memo has, what is left gives what the items from the first place gave. Assumes nothing.
use Prim.Native.Nat.{ℕ}
use mathlib.Core.List.{List}
use mathlib.Core.Path.{refl, sym, ◌∙◌, subst}
use native.Mathlib.Omega.{arith}
use Rattle.frame.specs.inner.Items.{sheet_in}
use Rattle.frame.proofs.Parts.{whole_length}
use Rattle.sheet.specs.inner.Code.{RushesIn}
use Rattle.sheet.proofs.Running.{rush-join, rush-further, rush-on}
use Rattle.sheet.proofs.rush_calls.Goals as goal

pub loop-went-init : goal.loop-went-init
loop-went-init c = record { ready = c.requires.0; rest = refl; mark = refl; onward = omega arith; same = refl }

pub rush-left-requires : goal.rush-left-requires
rush-left-requires c = let i = c.loop-went.invariant in (i.ready, rw i.same c.requires.1)

pub call_at-requires : goal.call_at-requires
call_at-requires c = let r = c.rush-left.ensures 0 in (r.ready, rw (r.same ∙ c.loop-went.invariant.same) c.requires.1)

pub returns-in_default : goal.returns-in_default
returns-in_default c = let a = c.args in
    let l = c.loop-went in
    let r = c.rush-left in
    let s = sheet_in a.items in
    let j = rush-join a.profile s a.from.at.0 a.from.count a.stack.now a.from.used a.table.now l.here l.stack l.invariant r.result _ (r.ensures a.profile) in
    subst (λ (y : List ℕ). RushesIn a.profile s a.from.at.0 a.from.count a.stack.now a.from.used a.table.now r.result y) (sym c.in_default.ensures) j

pub overflow_add-here : goal.overflow_add-here
overflow_add-here c = let i = c.args.items in
    let g = c.in-Some.ensures.within in
    let n = whole_length i.version i.bytes.now in
    record { fits = omega (arith, g, n, c.ranges.items.1) }

pub loop-went-smaller : goal.loop-went-smaller
loop-went-smaller c = let a = c.args in
    let l = c.loop-went in
    let r = c.rush-left in
    let g = c.in-Some.ensures in
    let f = rush-further a.profile (sheet_in a.items) l.here.at.0 l.here.count l.stack l.here.used a.table.now r.result _ (r.ensures a.profile) c.in-Some.went _ g in
    omega (arith, g.within, f, (r.ensures a.profile).onward)

pub loop-went-preserved : goal.loop-went-preserved
loop-went-preserved c = let a = c.args in
    let l = c.loop-went in
    let r = c.rush-left in
    let s = sheet_in a.items in
    let j = rush-join a.profile s a.from.at.0 a.from.count a.stack.now a.from.used a.table.now l.here l.stack l.invariant r.result _ (r.ensures a.profile) in
    rush-on a.profile s a.from.at.0 a.from.count a.stack.now a.from.used a.table.now r.result _ j c.in-Some.went _ c.in-Some.ensures c.call_at.auto.stack
