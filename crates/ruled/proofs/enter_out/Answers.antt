-- `ruled::enter_out` meets its contract: each form of a result is the outcome of its type. Assumes nothing.
use mathlib.Core.Path.{sym, ◌∙◌, ap, subst}
use mathlib.Core.Bool.{not}
use lib.Dec.{T}
use Rattle.conv.specs.Types.{formed, is_runtime}
use Rattle.overload.specs.inner.Code.{out_of}
use Rattle.overload.specs.declared.Out.{Out}
use Rattle.table.specs.Placing.{entering}
use Rattle.ruled.proofs.Outcomes.{plain-outcome, frexp-outcome, modf-outcome, gave-from}
use Rattle.ruled.proofs.enter_out.Goals as goal

pub returns-in-Plain : goal.returns-in-Plain
unfolding out_of
returns-in-Plain c =
    let a = c.args in
    gave-from c.answer_of.ensures
    (plain-outcome a.place.0 a.words.now a.n c.requires.0 _ (ap (λ (o : Out). formed (out_of o)) (sym c.in-Plain.is) ∙ c.requires.1) (subst (λ (o : Out). T (not (is_runtime (out_of o)))) c.in-Plain.is c.requires.2) _ _ c.enter_plain.ensures)
    (ap (λ (o : Out). entering a.place.0 a.words.now a.n (out_of o)) (sym c.in-Plain.is))

pub returns-in-Frexp : goal.returns-in-Frexp
unfolding out_of
returns-in-Frexp c =
    let a = c.args in
    gave-from c.answer_of-in-Frexp.ensures
    (frexp-outcome a.place.0 a.words.now a.n c.requires.0 _ (ap (λ (o : Out). formed (out_of o)) (sym c.in-Frexp.is) ∙ c.requires.1) _ _ c.enter_result.ensures)
    (ap (λ (o : Out). entering a.place.0 a.words.now a.n (out_of o)) (sym c.in-Frexp.is))

pub returns-in-Modf : goal.returns-in-Modf
unfolding out_of
returns-in-Modf c =
    let a = c.args in
    gave-from c.answer_of-in-Modf.ensures
    (modf-outcome a.place.0 a.words.now a.n c.requires.0 _ (ap (λ (o : Out). formed (out_of o)) (sym c.in-Modf.is) ∙ c.requires.1) _ _ c.enter_result-in-Modf.ensures)
    (ap (λ (o : Out). entering a.place.0 a.words.now a.n (out_of o)) (sym c.in-Modf.is))
