-- `tplt::param::param_of` meets its contract: by the laws of the four tags and of any other. Assumes nothing.
use Rattle.tplt.specs.Params.{type_param, i32_param, u32_param}
use Rattle.tplt.proofs.SignedLaws.{tag-type, tag-abstract, tag-i32, tag-u32, tag-other}
use Rattle.tplt.specs.declared.param.TpltParam.TheVariants.{AbstractInt}
use mir.ValLaws.{to_z-of_z}
use mir.Syntax.{w64}
use mathlib.Core.Path.{◌∙◌, ap}
use Rattle.tplt.proofs.param.param_of.Goals as goal

pub returns-in-0 : goal.returns-in-0
returns-in-0 c = let a = c.args in
    c.type_param.ensures ∙ ap (type_param a.n) (to_z-of_z w64 a.value c.ranges.value) ∙ tag-type a.n a.tag a.value c.ranges.tag c.in-0.in-0-own.keys1

pub returns-in-1 : goal.returns-in-1
returns-in-1 c = let a = c.args in
    ap AbstractInt (to_z-of_z w64 a.value c.ranges.value) ∙ tag-abstract a.n a.tag a.value c.ranges.tag c.in-1.in-1-own.keys2

pub returns-in-2 : goal.returns-in-2
returns-in-2 c = let a = c.args in
    c.i32_param.ensures ∙ ap i32_param (to_z-of_z w64 a.value c.ranges.value) ∙ tag-i32 a.n a.tag a.value c.ranges.tag c.in-2.in-2-own.keys3

pub returns-in-3 : goal.returns-in-3
returns-in-3 c = let a = c.args in
    c.u32_param.ensures ∙ ap u32_param (to_z-of_z w64 a.value c.ranges.value) ∙ tag-u32 a.n a.tag a.value c.ranges.tag c.in-3.in-3-own.keys4

pub returns-in_default : goal.returns-in_default
returns-in_default c = let a = c.args in let r = c.in_default.in_default-own.rest in tag-other a.n a.tag a.value r.0.0.0.1 r.0.0.1 r.0.1 r.1
