-- `tplt::AtomicTemplate::parse` meets its contract: by the type that stands alone and the test on it. Assumes nothing.
use mathlib.Core.Path.{sym, ◌∙◌}
use Rattle.std.proofs.lemmas.Result.{err_from_is_err_and}
use Rattle.tplt.specs.Templates.{is_atomic_component, atomic_parsed}
use Rattle.tplt.specs.declared.Parsed.TheVariants.{OfAtomic}
use Rattle.tplt.proofs.TemplateLaws.{component-none, component-made, component-wrong}
use Rattle.tplt.proofs.AtomicTemplate.parse.Goals as goal

pub returns-in_err-t : goal.returns-in_err-t
unfolding atomic_parsed
returns-in_err-t c =
    let p = err_from_is_err_and c.from_residual.result c.from_residual.ensures.1 in
    rw (p.1, p.2) (component-none is_atomic_component (λ t. OfAtomic (record { ty = t })) c.args.a _ (sym c.alone_in.ensures ∙ c.in_err-t.was))

pub returns-then-is_atomic_component : goal.returns-then-is_atomic_component
unfolding atomic_parsed
returns-then-is_atomic_component c = component-made is_atomic_component (λ t. OfAtomic (record { ty = t })) c.args.a _ (sym c.alone_in.ensures ∙ c.in_ok-t.was) _ c.is_atomic_component.ensures c.if-is_atomic_component.true

pub returns : goal.returns
unfolding atomic_parsed
returns c = component-wrong is_atomic_component (λ t. OfAtomic (record { ty = t })) c.args.a _ (sym c.alone_in.ensures ∙ c.in_ok-t.was) _ c.is_atomic_component.ensures c.if-is_atomic_component.false
