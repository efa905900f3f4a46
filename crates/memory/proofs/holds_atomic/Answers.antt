-- `memory::holds_atomic` meets its contract. The loop goes from a type to its element, which holds an atomic where the type does, and its number falls. Assumes nothing.
use mathlib.Core.Path.{sym, ◌∙◌, ap}
use native.Mathlib.Omega.{arith}
use Rattle.conv.specs.Types.{holds_atomic}
use Rattle.table.specs.Denote.{type_at}
use Rattle.table.specs.declared.Entry.{Entry}
use Rattle.table.proofs.TypeLaws.{row_at}
use Rattle.memory.proofs.Entries.{scalar-holds, here-holds, deeper-holds}
use Rattle.memory.proofs.holds_atomic.Goals as goal

pub returns-then-e-eq-KIND_ATOMIC : goal.returns-then-e-eq-KIND_ATOMIC
returns-then-e-eq-KIND_ATOMIC c =
    let a = c.args in
    let i = c.loop-at in
    sym (here-holds a.words.now a.n c.requires.0 i.at i.invariant.0 (ap (λ (e : Entry). e.kind) (sym c.entry_at-e.ensures) ∙ c.if-e-eq-KIND_ATOMIC.true)) ∙ i.invariant.1

pub loop-at-smaller : goal.loop-at-smaller
loop-at-smaller c =
    let a = c.args in
    let i = c.loop-at in
    let b = (row_at a.words.now a.n c.requires.0 i.at c.loop-at-test.true i.invariant.0).0 in
    let m = c.word-at.ensures ∙ ap (λ (e : Entry). e.elem) c.entry_at-e.ensures in
    omega arith

pub loop-at-preserved : goal.loop-at-preserved
loop-at-preserved c =
    let a = c.args in
    let i = c.loop-at in
    let h = c.loop-at-test.true in
    let b = (row_at a.words.now a.n c.requires.0 i.at h i.invariant.0).0 in
    let m = c.word-at.ensures ∙ ap (λ (e : Entry). e.elem) c.entry_at-e.ensures in
    let l = i.invariant.0 in (
      omega arith,
      ap (λ (j : _). holds_atomic (type_at a.words.now j)) m
          ∙ sym (deeper-holds a.words.now a.n c.requires.0 i.at l h (λ k. c.if-e-eq-KIND_ATOMIC.false (ap (λ (e : Entry). e.kind) c.entry_at-e.ensures ∙ k)))
          ∙ i.invariant.1,
    )

pub returns : goal.returns
returns c =
    let a = c.args in
    let i = c.loop-at in
    scalar-holds a.words.now a.n c.requires.0 i.at i.invariant.0 c.loop-at-test.false ∙ i.invariant.1
