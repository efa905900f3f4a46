-- `memo::asked_binary` meets its contract: an operator that is known has its code. Assumes nothing.
use Prim.Native.Nat.{◌+◌}
use mathlib.Core.Path.{◌≡◌}
use native.Mathlib.Omega.{arith}
use Rattle.memo.proofs.Asking.{binary-asks}
use Rattle.memo.proofs.asked_binary.Goals as goal

pub returns : goal.returns
returns c = λ profile s.
    let op = c.args.op in
    let e : 1 + c.wide.result ≡ op + 1 = omega (arith, c.wide.ensures) in
    rw e (binary-asks profile s op c.if-op-ge-BINARY_OPS.false)
