-- `tplt::param::count_of` meets its contract: by the cases of the literal. Assumes nothing.
use mathlib.Core.Path.{◌∙◌, ap}
use mir.ValLaws.{to_z-of_z}
use mir.Val.{SFits}
use mir.Syntax.{w32, w64}
use Rattle.tplt.specs.Params.{count_z, count_of}
use Rattle.tplt.proofs.ParamLaws.{count-other}
use Rattle.tplt.proofs.param.count_of.Goals as goal

pub returns-in-AbstractInt : goal.returns-in-AbstractInt
unfolding count_of
returns-in-AbstractInt c = rw c.in-AbstractInt.is (c.count_in.ensures ∙ ap count_z (to_z-of_z w64 c.in-AbstractInt.n (record { sfits = c.in-AbstractInt.known_told-1-own.given.0.1 })))

pub returns-in-I32 : goal.returns-in-I32
unfolding count_of
returns-in-I32 c =
    let f : SFits w32 c.in-I32.n = record { sfits = c.in-I32.known_told-in-I32-1-own.given.0.1 } in
    rw c.in-I32.is (c.count_in-in-I32.ensures ∙ ap count_z (to_z-of_z w64 c.from.result (record { sfits = c.from.type_inv }) ∙ c.from.ensures ∙ to_z-of_z w32 c.in-I32.n f))

pub returns-in-U32 : goal.returns-in-U32
unfolding count_of
returns-in-U32 c =
    rw c.in-U32.is (c.count_in-in-U32.ensures ∙ ap count_z (to_z-of_z w64 c.from-in-U32.result (record { sfits = c.from-in-U32.type_inv }) ∙ c.from-in-U32.ensures))

pub returns-in_default : goal.returns-in_default
returns-in_default c = count-other c.args.p c.in_default.in_default-own.keys4
