-- `memory::pointed` meets its contract: each return is what the entries of the pointer and of what it points to say. Assumes nothing.
use Rattle.memory.proofs.Entries.{pointed-below, component-small, taken, not_taken, no-taken}
use Rattle.overload.proofs.Operands.{and_right}
use Rattle.table.specs.declared.Entry.{Entry}
use Rattle.table.specs.Table.{entry_at}
use borrow.Author.Tests.{eqb-true}
use Prim.Native.Nat.{◌<◌}
use lib.Dec.{eqb}
use mathlib.Core.Bool.{◌&&◌, ◌||◌}
use native.Mathlib.Omega.{arith}
use mathlib.Core.Path.{◌≡◌, sym, ◌∙◌, ap}
use Rattle.memory.proofs.pointed.Goals as goal

pub returns-then-e-ne-KIND_PTR : goal.returns-then-e-ne-KIND_PTR
returns-then-e-ne-KIND_PTR c = let a = c.args in
    no-taken a.words.now a.n c.requires.0 a.t c.requires.1 (λ k. c.if-e-ne-KIND_PTR.true (ap (λ (e : Entry). e.kind) c.entry_at-e.ensures ∙ k))

pub entry_at-f-requires : goal.entry_at-f-requires
entry_at-f-requires c = let a = c.args in
    let k = ap (λ (e : Entry). e.kind) (sym c.entry_at-e.ensures) ∙ c.if-e-ne-KIND_PTR.false in
    let b = pointed-below a.words.now a.n c.requires.0 a.t c.requires.1 k in
    let m = c.word.ensures ∙ ap (λ (e : Entry). e.elem) c.entry_at-e.ensures in
    let r = c.requires.0.room in
    let l = c.requires.1 in
    omega arith

pub overflow_cast-result : goal.overflow_cast-result
overflow_cast-result c = let a = c.args in
    let e = c.entry_at-e.result in
    let f = c.entry_at-f.result in
    let k : f.kind ≡ 11 = eqb-true f.kind 11 (and_right ((eqb e.p 4 || eqb e.p 2) && eqb e.q 2) (eqb f.kind 11) c.if-shared-e.true) in
    let l : f.elem < 7 = component-small a.words.now a.n c.requires.0 a.t c.requires.1 e f c.entry_at-e.ensures c.if-e-ne-KIND_PTR.false (c.entry_at-f.ensures ∙ ap (entry_at a.words.now) c.word.ensures) k in
    omega arith

pub returns-then-shared-e : goal.returns-then-shared-e
returns-then-shared-e c = let a = c.args in
    taken a.words.now a.n c.requires.0 a.t c.requires.1 _ _ c.entry_at-e.ensures c.if-e-ne-KIND_PTR.false (c.entry_at-f.ensures ∙ ap (entry_at a.words.now) c.word.ensures) c.if-shared-e.true

pub returns : goal.returns
returns c = let a = c.args in
    not_taken a.words.now a.n c.requires.0 a.t c.requires.1 _ _ c.entry_at-e.ensures c.if-e-ne-KIND_PTR.false (c.entry_at-f.ensures ∙ ap (entry_at a.words.now) c.word.ensures) c.if-shared-e.false
