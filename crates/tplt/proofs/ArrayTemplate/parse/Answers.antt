-- `tplt::ArrayTemplate::parse` meets its contract: by the cases of the list. Assumes nothing.
use Rattle.std.proofs.Common.{◌≡◌, sym, ap, ◌∙◌, Option, ok_or}
use Rattle.std.proofs.lemmas.Result.{err_from_is_err_and}
use Rattle.answer.specs.declared.Reason.TheVariants.{Template}
use Rattle.tplt.specs.declared.param.Arguments.{Arguments}
use Rattle.tplt.specs.Templates.{array_parsed}
use Rattle.tplt.proofs.ArrayTemplate.parse.Goals as goal

pub array_of_type-requires : goal.array_of_type-requires
array_of_type-requires c = record { sound = c.requires.sound; t_lt_n = rw (c.in_ok-t.ensures.ok_part, c.in-One.is) at c.requires.below }

pub array_of_type-requires-in-Two : goal.array_of_type-requires-in-Two
array_of_type-requires-in-Two c = record { sound = c.requires.sound; t_lt_n = rw (c.in_ok-t.ensures.ok_part, c.in-Two.is) at c.requires.below }

pub returns-in-One : goal.returns-in-One
unfolding array_parsed
returns-in-One c = rw (c.in_ok-t.ensures.ok_part, c.in-One.is) c.array_of_type.ensures

pub returns-in-Two : goal.returns-in-Two
unfolding array_parsed
returns-in-Two c = rw (c.in_ok-t.ensures.ok_part, c.in-Two.is) c.array_of_type-in-Two.ensures

pub returns-in_err-t : goal.returns-in_err-t
unfolding array_parsed
returns-in_err-t c =
    let p = err_from_is_err_and c.from_residual.result c.from_residual.ensures.1 in
    let e = c.in_err-t.ensures in
    let v = e.value ∙ ap (λ (x : Option Arguments). ok_or x Template) e.ok_part in
    let q : c.in_err-t.field-0.0 ≡ Template = cc in
    rw (p.1, p.2, q) (sym (ap (array_parsed c.args.words.now) e.ok_part))
