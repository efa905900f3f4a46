-- `why::binary_rule` meets its contract. Assumes nothing.
use native.Mathlib.Omega.{arith}
use Rattle.why.proofs.Rules.{binary-ruling}
use Rattle.why.proofs.binary_rule.Goals as goal

pub returns-then-op-ge-BINARY_OPS : goal.returns-then-op-ge-BINARY_OPS
returns-then-op-ge-BINARY_OPS c = λ h. absurd (omega (arith, h, c.if-op-ge-BINARY_OPS.true))

pub returns : goal.returns
returns c = λ h. rw c.row_byte.ensures (binary-ruling _ h)
