-- `step::entry` meets its contract: the four numbers, widened. Assumes nothing.
use mathlib.Core.Path.{refl}
use Rattle.step.proofs.entry.Goals as goal

pub returns : goal.returns
returns c = rw (c.wide.ensures, c.wide-2.ensures, c.wide-3.ensures) refl
