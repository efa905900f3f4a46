-- `tplt::VecTemplate::parse` meets its contract: by the type that stands alone and the test on it. Assumes nothing.
use mathlib.Core.Path.{sym, ◌∙◌}
use Rattle.std.proofs.lemmas.Result.{err_from_is_err_and}
use Rattle.tplt.specs.Templates.{is_concrete, vec_parsed}
use Rattle.tplt.specs.declared.Parsed.TheVariants.{OfVec}
use Rattle.tplt.proofs.TemplateLaws.{component-none, component-made, component-wrong}
use Rattle.tplt.proofs.VecTemplate.parse.Goals as goal

pub returns-in_err-t : goal.returns-in_err-t
unfolding vec_parsed
returns-in_err-t c =
    let p = err_from_is_err_and c.from_residual.result c.from_residual.ensures.1 in
    rw (p.1, p.2) (component-none is_concrete (λ t. OfVec (record { n = c.args.n; ty = t })) c.args.a _ (sym c.alone_in.ensures ∙ c.in_err-t.was))

pub returns-then-is_concrete : goal.returns-then-is_concrete
unfolding vec_parsed
returns-then-is_concrete c = component-made is_concrete (λ t. OfVec (record { n = c.args.n; ty = t })) c.args.a _ (sym c.alone_in.ensures ∙ c.in_ok-t.was) _ c.is_concrete.ensures c.if-is_concrete.true

pub returns : goal.returns
unfolding vec_parsed
returns c = component-wrong is_concrete (λ t. OfVec (record { n = c.args.n; ty = t })) c.args.a _ (sym c.alone_in.ensures ∙ c.in_ok-t.was) _ c.is_concrete.ensures c.if-is_concrete.false
