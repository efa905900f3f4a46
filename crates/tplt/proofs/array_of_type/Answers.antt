-- `tplt::array_of_type` meets its contract: by the test on the element and the count of the literal. Assumes nothing.
use mathlib.Core.Path.{sym, ◌∙◌, ap}
use Rattle.std.proofs.lemmas.Result.{err_from_is_err_and}
use Rattle.tplt.specs.Templates.{of_count, array_of_type}
use Rattle.tplt.proofs.array_of_type.Goals as goal

pub returns-then-not-is_element : goal.returns-then-not-is_element
unfolding array_of_type
returns-then-not-is_element c = rw (sym c.is_element.ensures ∙ c.if-not-is_element.true)

pub returns-in_err-count_of-in-Some : goal.returns-in_err-count_of-in-Some
unfolding array_of_type
returns-in_err-count_of-in-Some c =
    let p = err_from_is_err_and c.from_residual.result c.from_residual.ensures.1 in
    rw (sym c.is_element.ensures ∙ c.if-not-is_element.false, c.in-Some.is, p.1, p.2) (ap (of_count c.args.t) (sym c.in_err-count_of-in-Some.was ∙ c.count_of.ensures))

pub returns-in_ok-count_of-in-Some : goal.returns-in_ok-count_of-in-Some
unfolding array_of_type
returns-in_ok-count_of-in-Some c =
    rw (sym c.is_element.ensures ∙ c.if-not-is_element.false, c.in-Some.is) (ap (of_count c.args.t) (sym c.in_ok-count_of-in-Some.was ∙ c.count_of.ensures))

pub returns-in-None : goal.returns-in-None
unfolding array_of_type
returns-in-None c = rw (sym c.is_element.ensures ∙ c.if-not-is_element.false, c.in-None.is)
