-- `memo::asked_unary` meets its contract: an operator that is known has its code. Assumes nothing.
use Prim.Native.Nat.{◌+◌}
use mathlib.Core.Path.{◌≡◌}
use native.Mathlib.Omega.{arith}
use Rattle.memo.proofs.Asking.{unary-asks}
use Rattle.memo.proofs.asked_unary.Goals as goal

pub returns : goal.returns
returns c = λ profile s.
    let op = c.args.op in
    let e : 19 + c.wide.result ≡ op + 19 = omega (arith, c.wide.ensures) in
    rw e (unary-asks profile s op c.if-op-ge-UNARY_OPS.false)
