-- `ops_ty::type_turned` meets its contract: by the words of the operand's entry. Assumes nothing.
use mathlib.Core.Path.{refl}
use Rattle.ruled.proofs.Outcomes.{gave-as, gave-from, gave-refused}
use Rattle.ops_ty.proofs.Pointers.{turn-no, turn-handle, turn-enter}
use Rattle.ops_ty.proofs.type_turned.Goals as goal

pub returns-then-e-from : goal.returns-then-e-from
returns-then-e-from c =
    let a = c.args in
    gave-as (turn-no a.place.0 a.words.now a.n c.requires.0 a.a c.requires.1 _ c.entry_at-e.ensures a.from a.to c.requires.2 c.if-e-from.true) (gave-refused _ _ a.words.now a.n c.refused.ensures)

pub returns-then-e-eq-SPACE_HANDLE : goal.returns-then-e-eq-SPACE_HANDLE
returns-then-e-eq-SPACE_HANDLE c =
    let a = c.args in
    gave-as (turn-handle a.place.0 a.words.now a.n c.requires.0 a.a c.requires.1 _ c.entry_at-e.ensures a.from a.to c.requires.2 c.if-e-from.false c.if-e-eq-SPACE_HANDLE.true)
    (gave-refused _ _ a.words.now a.n c.refused-then-e-eq-SPACE_HANDLE.ensures)

pub returns : goal.returns
returns c =
    let a = c.args in
    gave-from c.answer_of.ensures
    (turn-enter a.place.0 a.words.now a.n c.requires.0 a.a c.requires.1 _ c.entry_at-e.ensures a.from a.to c.requires.2 c.if-e-from.false c.if-e-eq-SPACE_HANDLE.false _ _ c.enter-r.ensures)
    refl
