-- `tplt::param::u32_param` meets its contract: by what a u32 holds. Assumes nothing.
use Rattle.tplt.proofs.SignedLaws.{u32-in, u32-none}
use Rattle.tplt.specs.Params.{u32_param}
use mir.ValLaws.{to_z-of_z}
use mir.Val.{to_z, of_z}
use mir.Syntax.{w64}
use mathlib.Core.Path.{◌∙◌, ap}
use Rattle.tplt.proofs.param.u32_param.Goals as goal

pub returns-in-Ok : goal.returns-in-Ok
returns-in-Ok c = let z = c.args.value in u32-in (to_z w64 (of_z w64 z)) c.in-Ok.n c.in-Ok.ensures ∙ ap u32_param (to_z-of_z w64 z c.ranges.value)

pub returns-in-Err : goal.returns-in-Err
returns-in-Err c = let z = c.args.value in u32-none (to_z w64 (of_z w64 z)) c.in-Err.ensures ∙ ap u32_param (to_z-of_z w64 z c.ranges.value)
