-- `tplt::param::i32_param` meets its contract: by what an i32 holds. Assumes nothing.
use Rattle.tplt.proofs.SignedLaws.{i32-in, i32-none}
use Rattle.tplt.specs.declared.param.TpltParam.TheVariants.{I32}
use Rattle.tplt.specs.Params.{i32_param}
use mir.ValLaws.{to_z-of_z}
use mir.Val.{to_z, of_z}
use mir.Syntax.{w32, w64}
use mathlib.Core.Path.{◌∙◌, ap}
use Rattle.tplt.proofs.param.i32_param.Goals as goal

pub returns-in-Ok : goal.returns-in-Ok
returns-in-Ok c =
    let z = c.args.value in
    let v = to_z w64 (of_z w64 z) in
    let f = c.in-Ok.ensures.0 in
    rw c.in-Ok.ensures.1 (ap I32 (to_z-of_z w32 v f) ∙ i32-in v f ∙ ap i32_param (to_z-of_z w64 z c.ranges.value))

pub returns-in-Err : goal.returns-in-Err
returns-in-Err c = let z = c.args.value in i32-none (to_z w64 (of_z w64 z)) c.in-Err.ensures ∙ ap i32_param (to_z-of_z w64 z c.ranges.value)
