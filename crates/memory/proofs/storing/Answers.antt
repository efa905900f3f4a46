-- `memory::storing` meets its contract: none fits, or no value. Assumes nothing.
use Rattle.memory.proofs.Outcomes.{silent-none, silent-some}
use Rattle.table.proofs.Giving.{gave}
use Rattle.ruled.proofs.Outcomes.{gave-as, gave-refused}
use mathlib.Core.Path.{refl}
use Rattle.memory.proofs.storing.Goals as goal

pub returns-in-Some : goal.returns-in-Some
returns-in-Some c = let a = c.args in
    gave-as
    (silent-some a.place.0 a.words.now a.n c.requires.0 a.a c.requires.1 a.rest.now _ c.component.ensures _ c.in-Some.is)
    (gave c.no_value.ensures.made refl)

pub returns-in-None : goal.returns-in-None
returns-in-None c = let a = c.args in
    gave-as
    (silent-none a.place.0 a.words.now a.n c.requires.0 a.a c.requires.1 a.rest.now _ c.component.ensures c.in-None.is)
    (gave-refused _ _ a.words.now a.n c.refused.ensures)
