-- `held::value` meets its contract: the bit is added where the mark says so. Assumes nothing.
use native.Mathlib.Omega.{arith}
use Rattle.held.proofs.value.Goals as goal

pub returns-then-running : goal.returns-then-running
returns-then-running c = rw c.if-running.true

pub returns : goal.returns
returns c = rw c.if-running.false (omega arith)
