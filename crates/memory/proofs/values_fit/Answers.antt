-- `memory::values_fit` meets its contract: an operand that does not convert, or all that do. Assumes nothing.
use mathlib.Core.Path.{sym, ◌∙◌}
use native.Mathlib.Omega.{arith}
use Rattle.memory.proofs.Fitting.{all_fit, one-does-not}
use Rattle.memory.proofs.values_fit.Goals as goal

pub returns-then-not-value_fits : goal.returns-then-not-value_fits
returns-then-not-value_fits c = let a = c.args in
    sym (one-does-not a.words.now a.s a.rest.now c.loop-v.v-index (omega arith) (sym c.value_fits.ensures ∙ c.if-not-value_fits.true))

pub returns : goal.returns
returns c = let a = c.args in
    sym (all_fit a.words.now a.s a.rest.now (λ k h. c.loop-v.invariant k (omega arith)))
