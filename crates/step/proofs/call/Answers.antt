-- `step::call` meets its contract: 11 where values lack, 2 for a template that is no type, else the call with it or without one. Assumes nothing.
use Prim.Native.Nat.{ℕ, zero, suc, ◌<◌}
use mathlib.Core.List.{[], ◌∷◌}
use native.Mathlib.Omega.{arith}
use lib.ListN.{get_or}
use Rattle.answer.specs.declared.Reason.TheVariants.{NoSuchType, Stack}
use Rattle.step.proofs.Effects.{does-as, refusing, called-short, call-goes, template-unknown, template-goes}
use Rattle.step.proofs.call.Goals as goal

-- the list of one number below n
one : (t n : ℕ) → t < n → (i : ℕ) → i < 1 → get_or (t ∷ []) i 0 < n
one t n h zero l = h
one t n h (suc i) l = absurd (omega arith)

pub returns-then-count-k : goal.returns-then-count-k
returns-then-count-k c =
    let a = c.args in
    let l = rw c.wide-k.ensures at c.if-count-k.true in
    refusing a.at a.count a.stack.now a.used a.table.now Stack c.stopped.ensures (called-short a.at a.count a.stack.now a.used a.table.now c.requires a.keeps a.profile a.name.now a.template a.k l)

pub returns-in_default : goal.returns-in_default
returns-in_default c =
    let a = c.args in
    let l = rw c.wide-k.ensures at c.if-count-k.false in
    rw c.in_default.is
    (does-as (call-goes a.at a.count a.stack.now a.used a.table.now c.requires a.keeps a.profile a.name.now a.k l) (rw c.wide-k.ensures at c.call_on.ensures))

pub returns-then-used-t : goal.returns-then-used-t
returns-then-used-t c =
    let a = c.args in
    let l = rw c.wide-k.ensures at c.if-count-k.false in
    rw c.in-Some.is
    (refusing a.at a.count a.stack.now a.used a.table.now NoSuchType c.stopped-then-used-t.ensures
    (template-unknown a.at a.count a.stack.now a.used a.table.now c.requires a.keeps a.profile a.name.now c.in-Some.t.0 a.k l c.if-used-t.true))

pub returns : goal.returns
returns c =
    let a = c.args in
    let l = rw c.wide-k.ensures at c.if-count-k.false in
    rw c.in-Some.is
    (does-as (template-goes a.at a.count a.stack.now a.used a.table.now c.requires a.keeps a.profile a.name.now c.in-Some.t.0 a.k l c.if-used-t.false) (rw c.wide-k.ensures at c.call_on-2.ensures))
