-- `memory::load_at` meets its contract: the five ways out, by the entries of the pointer and of what it points to. Assumes nothing.
use Rattle.memory.proofs.Outcomes.{nothing-fits, standing, standing-scalar}
use Rattle.memory.proofs.Entries.{load-none, passed-below, passed-atomic, passed-runtime, passed-holding, passed-element}
use Rattle.conv.specs.Types.Ty.{scalar}
use Rattle.table.proofs.Giving.{gave}
use Rattle.ruled.proofs.Outcomes.{gave-as, gave-refused}
use Rattle.overload.specs.Overload.Judged.{gives}
use Rattle.conv.specs.Types.{holds_atomic}
use Rattle.table.specs.Denote.{type_at}
use Rattle.table.specs.Table.{entry_at}
use native.Mathlib.Omega.{arith}
use mathlib.Core.Path.{refl, sym, ◌∙◌, ap}
use Rattle.memory.proofs.load_at.Goals as goal

pub returns-then-e : goal.returns-then-e
returns-then-e c = let a = c.args in
    gave-as
    (nothing-fits a.place.0 a.words.now a.n c.requires.0 _ (sym (load-none a.words.now a.n c.requires.0 a.t c.requires.1 _ c.entry_at-e.ensures c.if-e.true)))
    (gave-refused _ _ a.words.now a.n c.refused.ensures)

pub entry_at-f-requires : goal.entry_at-f-requires
entry_at-f-requires c = let a = c.args in
    let b = passed-below a.words.now a.n c.requires.0 a.t c.requires.1 _ _ c.entry_at-e.ensures c.if-e.false refl in
    let m = c.word-element.ensures in
    let r = c.requires.0.room in
    omega arith

pub returns-then-f-eq-KIND_ATOMIC : goal.returns-then-f-eq-KIND_ATOMIC
returns-then-f-eq-KIND_ATOMIC c = let a = c.args in
    let z = passed-atomic a.words.now a.n c.requires.0 a.t c.requires.1 _ _ c.entry_at-e.ensures c.if-e.false (c.entry_at-f.ensures ∙ ap (entry_at a.words.now) c.word-element.ensures) c.if-f-eq-KIND_ATOMIC.true in
    let m = c.word.ensures in
    let l = z.0 in
    gave-as
    (standing-scalar a.place.0 a.words.now a.n c.requires.0 _ _ (omega arith) (ap (λ (k : _). gives (scalar k)) m ∙ z.1))
    (gave c.accepted.ensures.made refl)

pub returns-then-f-eq-KIND_RUNTIME : goal.returns-then-f-eq-KIND_RUNTIME
returns-then-f-eq-KIND_RUNTIME c = let a = c.args in
    gave-as
    (nothing-fits a.place.0 a.words.now a.n c.requires.0 _ (passed-runtime a.words.now a.n c.requires.0 a.t c.requires.1 _ _ c.entry_at-e.ensures c.if-e.false (c.entry_at-f.ensures ∙ ap (entry_at a.words.now) c.word-element.ensures) c.if-f-eq-KIND_ATOMIC.false c.if-f-eq-KIND_RUNTIME.true))
    (gave-refused _ _ a.words.now a.n c.refused-then-f-eq-KIND_RUNTIME.ensures)

pub holds_atomic-requires : goal.holds_atomic-requires
holds_atomic-requires c = let a = c.args in
    let b = passed-below a.words.now a.n c.requires.0 a.t c.requires.1 _ _ c.entry_at-e.ensures c.if-e.false refl in
    let m = c.word-element.ensures in
    (c.requires.0, omega arith)

pub returns-then-holds_atomic : goal.returns-then-holds_atomic
returns-then-holds_atomic c = let a = c.args in
    gave-as
    (nothing-fits a.place.0 a.words.now a.n c.requires.0 _ (passed-holding a.words.now a.n c.requires.0 a.t c.requires.1 _ _ c.entry_at-e.ensures c.if-e.false (c.entry_at-f.ensures ∙ ap (entry_at a.words.now) c.word-element.ensures) c.if-f-eq-KIND_ATOMIC.false c.if-f-eq-KIND_RUNTIME.false (ap (λ (k : _). holds_atomic (type_at a.words.now k)) (sym c.word-element.ensures) ∙ sym c.holds_atomic.ensures ∙ c.if-holds_atomic.true)))
    (gave-refused _ _ a.words.now a.n c.refused-then-holds_atomic.ensures)

pub returns : goal.returns
returns c = let a = c.args in
    let m = c.word-element.ensures in
    let b = passed-below a.words.now a.n c.requires.0 a.t c.requires.1 _ _ c.entry_at-e.ensures c.if-e.false refl in
    gave-as
    (standing a.place.0 a.words.now a.n c.requires.0 _ _ (omega arith) (ap (λ (k : _). gives (type_at a.words.now k)) m ∙ passed-element a.words.now a.n c.requires.0 a.t c.requires.1 _ _ c.entry_at-e.ensures c.if-e.false (c.entry_at-f.ensures ∙ ap (entry_at a.words.now) c.word-element.ensures) c.if-f-eq-KIND_ATOMIC.false c.if-f-eq-KIND_RUNTIME.false (ap (λ (k : _). holds_atomic (type_at a.words.now k)) (sym c.word-element.ensures) ∙ sym c.holds_atomic.ensures ∙ c.if-holds_atomic.false)))
    (gave c.accepted-2.ensures.made refl)
