-- `memory::on_atomic` meets its contract: none fits, or the component, which stands in the table. Assumes nothing.
use Rattle.memory.proofs.Outcomes.{no-component, gives-component}
use Rattle.table.proofs.Giving.{gave}
use Rattle.ruled.proofs.Outcomes.{gave-as, gave-refused}
use Rattle.conv.specs.Types.Ty.{scalar}
use mathlib.Core.Path.{refl}
use Rattle.memory.proofs.on_atomic.Goals as goal

pub returns-in-Some : goal.returns-in-Some
returns-in-Some c = let a = c.args in
    gave-as
    (gives-component a.place.0 a.words.now a.n c.requires.0 a.a c.requires.1 a.rest.now _ c.component.ensures _ c.in-Some.is)
    (gave c.accepted.ensures.made refl)

pub returns-in-None : goal.returns-in-None
returns-in-None c = let a = c.args in
    gave-as
    (no-component a.place.0 a.words.now a.n c.requires.0 a.a c.requires.1 a.rest.now _ c.component.ensures scalar c.in-None.is)
    (gave-refused _ _ a.words.now a.n c.refused.ensures)
