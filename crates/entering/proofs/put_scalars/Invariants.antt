use mathlib.Core.Path.{◌≡◌}
use Rattle.table.specs.Enter.{with_scalars}
use Rattle.entering.proofs.put_scalars.Given as goal

abbrev pub invariant-loop-i : goal.invariant-loop-i
invariant-loop-i l = l.words ≡ with_scalars l.i l.initial.words
