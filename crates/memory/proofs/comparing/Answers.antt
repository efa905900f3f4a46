-- `memory::comparing` meets its contract: none fits, or the result, entered. Assumes nothing.
use Rattle.memory.proofs.Outcomes.{no-component, gives-exchange}
use Rattle.ruled.proofs.Outcomes.{gave-from, gave-as, gave-refused}
use Rattle.conv.specs.Types.Ty.{exchange}
use mathlib.Core.Path.{refl}
use Rattle.memory.proofs.comparing.Goals as goal

pub returns-in_default : goal.returns-in_default
returns-in_default c = let a = c.args in
    gave-as
    (no-component a.place.0 a.words.now a.n c.requires.0 a.a c.requires.1 a.rest.now _ c.component.ensures exchange c.in_default.is)
    (gave-refused _ _ a.words.now a.n c.refused.ensures)

pub returns : goal.returns
returns c = let a = c.args in
    gave-from c.answer_of.ensures
    (gives-exchange a.place.0 a.words.now a.n c.requires.0 a.a c.requires.1 a.rest.now _ c.component.ensures _ c.in-Some.is _ _ c.enter-r.ensures) refl
