-- `tplt::MatTemplate::parse` meets its contract: by the type that stands alone and the test on it. Assumes nothing.
use mathlib.Core.Path.{sym, ◌∙◌}
use Rattle.std.proofs.lemmas.Result.{err_from_is_err_and}
use Rattle.tplt.specs.Templates.{is_matrix_component, mat_parsed}
use Rattle.tplt.specs.declared.Parsed.TheVariants.{OfMat}
use Rattle.tplt.proofs.TemplateLaws.{component-none, component-made, component-wrong}
use Rattle.tplt.proofs.MatTemplate.parse.Goals as goal

pub returns-in_err-t : goal.returns-in_err-t
unfolding mat_parsed
returns-in_err-t c =
    let p = err_from_is_err_and c.from_residual.result c.from_residual.ensures.1 in
    rw (p.1, p.2) (component-none is_matrix_component (λ t. OfMat (record { c = c.args.c; r = c.args.r; ty = t })) c.args.a _ (sym c.alone_in.ensures ∙ c.in_err-t.was))

pub returns-then-is_matrix_component : goal.returns-then-is_matrix_component
unfolding mat_parsed
returns-then-is_matrix_component c = component-made is_matrix_component (λ t. OfMat (record { c = c.args.c; r = c.args.r; ty = t })) c.args.a _ (sym c.alone_in.ensures ∙ c.in_ok-t.was) _ c.is_matrix_component.ensures c.if-is_matrix_component.true

pub returns : goal.returns
unfolding mat_parsed
returns c = component-wrong is_matrix_component (λ t. OfMat (record { c = c.args.c; r = c.args.r; ty = t })) c.args.a _ (sym c.alone_in.ensures ∙ c.in_ok-t.was) _ c.is_matrix_component.ensures c.if-is_matrix_component.false
