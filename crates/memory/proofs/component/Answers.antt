-- `memory::component` meets its contract: no pointer, values that do not fit, or the component. Assumes nothing.
use Rattle.memory.proofs.Fitting.{pointed_by, pointed-small}
use Rattle.ruled.specs.Call.{operand_ty}
use Rattle.held.specs.Held.{number_of}
use Rattle.table.proofs.FormedLaws.{formed-at}
use Rattle.table.specs.Denote.{type_at}
use mathlib.Core.Path.{sym, ◌∙◌, ap}
use Rattle.memory.proofs.component.Goals as goal

pub values_fit-requires : goal.values_fit-requires
values_fit-requires c = let a = c.args in
    let e = c.pointed.ensures ∙ ap (λ (i : _). pointed_by (type_at a.words.now i)) c.number.ensures in
    let l = pointed-small (operand_ty a.words.now a.a) (formed-at a.words.now a.n c.requires.0 (number_of a.a) c.requires.1) _ (sym e ∙ c.in_ok-s.was) in
    (c.requires.0, c.requires.2, l)
