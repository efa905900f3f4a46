-- `why::told_by` meets its contract, case by case of the answer. Assumes nothing.
use mathlib.Core.Path.{sym, ◌∙◌}
use mathlib.Core.Logic.{⊎_elim}
use Rattle.why.proofs.Asking.{by_value, by-none, by-eight, by-other}
use Rattle.why.proofs.told_by.Goals as goal

pub returns-in-Value : goal.returns-in-Value
returns-in-Value c = rw c.said.ensures (⊎_elim (λ x. by_value _ _ _ _ x.2) (λ x. by-none _ _ _ _ x.1) c.in-Value.is)

pub returns-then-none_fits : goal.returns-then-none_fits
returns-then-none_fits c = rw c.said-then-none_fits.ensures (by-eight _ _ _ _ _ c.in-Refused.is (sym c.none_fits.ensures ∙ c.if-none_fits.true))

pub returns-else-none_fits : goal.returns-else-none_fits
returns-else-none_fits c = by-other _ _ _ _ _ c.in-Refused.is (sym c.none_fits.ensures ∙ c.if-none_fits.false)
