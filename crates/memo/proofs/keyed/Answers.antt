-- `memo::keyed` meets its contract: the operands are the last values of the stack. Assumes nothing.
use Rattle.memo.proofs.Asking.{last-many, last-bytes}
use native.Mathlib.Omega.{arith}
use Rattle.memo.proofs.keyed.Goals as goal

pub key_on-number-requires : goal.key_on-number-requires
key_on-number-requires c = let a = c.args in
    let h = c.if-count-a.false in
    let m = last-many a.a.operands a.count a.stack.now c.requires h in
    (a.a.coded, last-bytes a.a.operands a.count a.stack.now c.requires h, omega (arith, m, a.a.some), omega (arith, m, a.a.few))
