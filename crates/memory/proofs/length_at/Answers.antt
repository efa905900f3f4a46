-- `memory::length_at` meets its contract: the three ways out, by the entries of the pointer and of what it points to. Assumes nothing.
use Rattle.memory.proofs.Outcomes.{nothing-fits, standing-scalar}
use Rattle.memory.proofs.Entries.{pointed-below, no_length, length-by}
use Rattle.conv.specs.Types.{u32}
use Rattle.table.specs.declared.Entry.{Entry}
use Rattle.table.specs.Table.{entry_at}
use Rattle.table.proofs.Giving.{gave}
use Rattle.ruled.proofs.Outcomes.{gave-as, gave-refused}
use native.Mathlib.Omega.{arith}
use mathlib.Core.Bool.{true, false}
use mathlib.Core.Path.{refl, sym, ◌∙◌, ap}
use Rattle.memory.proofs.length_at.Goals as goal

pub returns-then-e-ne-KIND_PTR : goal.returns-then-e-ne-KIND_PTR
returns-then-e-ne-KIND_PTR c = let a = c.args in
    gave-as
    (nothing-fits a.place.0 a.words.now a.n c.requires.0 _ (no_length a.words.now a.n c.requires.0 a.t c.requires.1 (λ k. c.if-e-ne-KIND_PTR.true (ap (λ (e : Entry). e.kind) c.entry_at-e.ensures ∙ k))))
    (gave-refused _ _ a.words.now a.n c.refused.ensures)

pub entry_at-f-requires : goal.entry_at-f-requires
entry_at-f-requires c = let a = c.args in
    let k = ap (λ (e : Entry). e.kind) (sym c.entry_at-e.ensures) ∙ c.if-e-ne-KIND_PTR.false in
    let b = pointed-below a.words.now a.n c.requires.0 a.t c.requires.1 k in
    let m = c.word.ensures ∙ ap (λ (e : Entry). e.elem) c.entry_at-e.ensures in
    let r = c.requires.0.room in
    let l = c.requires.1 in
    omega arith

pub returns-then-e-read : goal.returns-then-e-read
returns-then-e-read c = let a = c.args in
    gave-as
    (standing-scalar a.place.0 a.words.now a.n c.requires.0 _ u32 (omega arith) (length-by a.words.now a.n c.requires.0 a.t c.requires.1 _ _ c.entry_at-e.ensures c.if-e-ne-KIND_PTR.false (c.entry_at-f.ensures ∙ ap (entry_at a.words.now) c.word.ensures) true c.if-e-read.true))
    (gave c.accepted.ensures.made refl)

pub returns : goal.returns
returns c = let a = c.args in
    gave-as
    (nothing-fits a.place.0 a.words.now a.n c.requires.0 _ (length-by a.words.now a.n c.requires.0 a.t c.requires.1 _ _ c.entry_at-e.ensures c.if-e-ne-KIND_PTR.false (c.entry_at-f.ensures ∙ ap (entry_at a.words.now) c.word.ensures) false c.if-e-read.false))
    (gave-refused _ _ a.words.now a.n c.refused-2.ensures)
