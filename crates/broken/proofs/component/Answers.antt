-- `broken::component` meets its contract. Assumes nothing.
use mathlib.Core.Logic.{⊎_elim}
use native.Mathlib.Omega.{arith}
use Rattle.text.specs.Text.{ascii}
use Rattle.spell.specs.Spell.{named, spelling}
use Rattle.broken.proofs.component.Goals as goal

pub returns-in-3-clause-spelled : goal.returns-in-3-clause-spelled
unfolding ascii named spelling
returns-in-3-clause-spelled c = rw c.in-3.is

pub returns-in_default-clause-spelled : goal.returns-in_default-clause-spelled
unfolding ascii named spelling
returns-in_default-clause-spelled c = let h = c.in_default in ⊎_elim (λ e. absurd (omega (arith, e))) (λ e. rw e) c.requires
