-- `sheet::rush` meets its contract: after every quick item, what is left gives what the items from the first place gave. Assumes nothing.
use Prim.Native.Nat.{ℕ}
use mathlib.Core.List.{List}
use mathlib.Core.Path.{refl, sym, subst}
use borrow.Author.Rules.{rules}
use native.Mathlib.Omega.{arith}
use Rattle.frame.specs.inner.Items.{sheet_in}
use Rattle.frame.proofs.Parts.{whole_length}
use Rattle.sheet.specs.inner.Code.{Rushes}
use Rattle.sheet.proofs.Running.{rush-further, rush-on}
use Rattle.sheet.proofs.rush.Goals as goal

pub loop-went-init : goal.loop-went-init
loop-went-init c = λ profile. record { ready = c.requires.0; rest = refl; mark = refl; onward = omega arith; same = refl }

pub quick_at-requires : goal.quick_at-requires
quick_at-requires c = let i = c.loop-went.invariant 0 in (i.ready, rw i.same c.requires.1)

pub returns : goal.returns
returns c = let a = c.args in
    let l = c.loop-went in
    subst (λ (y : List ℕ). Rushes (sheet_in a.items) a.from.at.0 a.from.count a.stack.now a.from.used a.table.now l.here y) (sym c.in_default.ensures) l.invariant

pub overflow_add-here : goal.overflow_add-here
overflow_add-here c = let i = c.args.items in
    let h = (c.in-Some.ensures 0).within in
    let n = whole_length i.version i.bytes.now in
    search rules

pub loop-went-smaller : goal.loop-went-smaller
loop-went-smaller c = let a = c.args in
    let l = c.loop-went in
    let h = c.in-Some.ensures 0 in
    let f = rush-further 0 (sheet_in a.items) a.from.at.0 a.from.count a.stack.now a.from.used a.table.now l.here l.stack (l.invariant 0) c.in-Some.went _ h in
    omega (arith, h.within, f)

pub loop-went-preserved : goal.loop-went-preserved
loop-went-preserved c = let a = c.args in
    let l = c.loop-went in
    λ profile. rush-on profile (sheet_in a.items) a.from.at.0 a.from.count a.stack.now a.from.used a.table.now l.here l.stack (l.invariant profile) c.in-Some.went _ (c.in-Some.ensures profile) c.quick_at.auto.stack
