-- `entering::put_scalars` meets its contract: after i turns the first i scalars stand. Assumes nothing.
use mathlib.Core.Path.{refl}
use native.Mathlib.Numerals.{add-one}
use Rattle.table.specs.Enter.{with_scalars}
use Rattle.entering.proofs.put_scalars.Goals as goal

pub loop-i-init : goal.loop-i-init
unfolding with_scalars
loop-i-init c = refl

pub loop-i-preserved : goal.loop-i-preserved
unfolding with_scalars
loop-i-preserved c = rw (add-one, ← c.loop-i.invariant) c.put_entry.ensures
