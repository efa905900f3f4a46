-- `tplt::param::count_in` meets its contract: the sign is tested first, so the cast loses nothing. Assumes nothing.
use Rattle.tplt.proofs.SignedLaws.{count_under, count-in, count-none}
use Rattle.tplt.specs.Params.{count_z}
use mir.ValLaws.{to_z-of_z}
use mir.Val.{to_z, of_z}
use mir.Syntax.{w64}
use mathlib.Core.Path.{◌∙◌, ap}
use Rattle.tplt.proofs.param.count_in.Goals as goal

pub returns-then-count-le0 : goal.returns-then-count-le0
returns-then-count-le0 c = let z = c.args.count in count_under (to_z w64 (of_z w64 z)) c.if-count-le0.true ∙ ap count_z (to_z-of_z w64 z c.ranges.count)

pub returns-in-Ok : goal.returns-in-Ok
returns-in-Ok c = let z = c.args.count in count-in (to_z w64 (of_z w64 z)) c.in-Ok.n c.if-count-le0.false c.in-Ok.ensures ∙ ap count_z (to_z-of_z w64 z c.ranges.count)

pub returns-in-Err : goal.returns-in-Err
returns-in-Err c = let z = c.args.count in count-none (to_z w64 (of_z w64 z)) c.if-count-le0.false c.in-Err.ensures ∙ ap count_z (to_z-of_z w64 z c.ranges.count)
