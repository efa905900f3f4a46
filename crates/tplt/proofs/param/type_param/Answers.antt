-- `tplt::param::type_param` meets its contract: by the sign and the size of the number. Assumes nothing.
use Rattle.tplt.proofs.SignedLaws.{type-none, type-high, type-low}
use Rattle.tplt.specs.Params.{type_param}
use mir.Facts.{sfits_to_z, Fits-of_z}
use mir.ValLaws.{to_z-of_z}
use mir.Val.{to_z, of_z}
use mir.Syntax.{w64}
use mathlib.Core.Path.{◌∙◌, ap}
use Rattle.tplt.proofs.param.type_param.Goals as goal

pub returns-then-n-t : goal.returns-then-n-t
returns-then-n-t c = let a = c.args in type-high a.n (to_z w64 (of_z w64 a.value)) c.in-Ok.t c.in-Ok.ensures c.if-n-t.true ∙ ap (type_param a.n) (to_z-of_z w64 a.value c.ranges.value)

pub returns-else-n-t : goal.returns-else-n-t
returns-else-n-t c = let a = c.args in type-low a.n (to_z w64 (of_z w64 a.value)) c.in-Ok.t c.in-Ok.ensures c.if-n-t.false ∙ ap (type_param a.n) (to_z-of_z w64 a.value c.ranges.value)

pub returns-in-Err : goal.returns-in-Err
returns-in-Err c = let a = c.args in type-none a.n (to_z w64 (of_z w64 a.value)) (sfits_to_z (Fits-of_z c.ranges.value)) c.in-Err.ensures ∙ ap (type_param a.n) (to_z-of_z w64 a.value c.ranges.value)
