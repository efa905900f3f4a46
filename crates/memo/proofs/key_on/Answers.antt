-- `memo::key_on` meets its contract: one to three operands, each the next digit. Assumes nothing.
use Rattle.memo.proofs.MemoLaws.{key-none, key-digit, key-whole}
use Rattle.memo.specs.inner.Memo.{digits}
use Rattle.step.proofs.StackLaws.{value-under}
use lib.ListN.{length}
use native.Mathlib.Omega.{arith}
use mathlib.Core.Path.{◌≡◌}
use Prim.Native.Nat.{◌<◌}
use Rattle.memo.proofs.key_on.Goals as goal

pub digit-requires : goal.digit-requires
digit-requires c = let a = c.args in let p = c.requires in value-under 256 a.args.now p.1 0 (omega (arith, p.2))

pub overflow_add-one : goal.overflow_add-one
overflow_add-one c = let p = c.requires in
    let x : c.digit.result < 512 = c.digit.ensures.1 in
    omega (arith, x, p.0)

pub returns-then-args-eq1 : goal.returns-then-args-eq1
returns-then-args-eq1 c = let a = c.args in
    let p = c.requires in
    let x : c.digit.result < 512 = c.digit.ensures.1 in
    let e = key-digit a.code a.args.now 0 a.code c.digit.result (key-none a.code (digits a.args.now)) (omega (arith, p.2)) c.digit.ensures.0 in
    (key-whole a.code a.args.now 1 _ c.if-args-eq1.true e, omega (arith, x, p.0))

pub overflow_mul-two : goal.overflow_mul-two
overflow_mul-two c = let p = c.requires in
    let x : c.digit.result < 512 = c.digit.ensures.1 in
    omega (arith, x, p.0)

pub digit-requires-2 : goal.digit-requires-2
digit-requires-2 c = let a = c.args in let p = c.requires in value-under 256 a.args.now p.1 1 (omega (arith, p.2, c.if-args-eq1.false))

pub overflow_add-two : goal.overflow_add-two
overflow_add-two c = let p = c.requires in
    let x : c.digit.result < 512 = c.digit.ensures.1 in
    let y : c.digit-2.result < 512 = c.digit-2.ensures.1 in
    omega (arith, x, y, p.0)

pub returns-then-args-eq2 : goal.returns-then-args-eq2
returns-then-args-eq2 c = let a = c.args in
    let p = c.requires in
    let x : c.digit.result < 512 = c.digit.ensures.1 in
    let y : c.digit-2.result < 512 = c.digit-2.ensures.1 in
    let e = key-digit a.code a.args.now 0 a.code c.digit.result (key-none a.code (digits a.args.now)) (omega (arith, c.if-args-eq2.true)) c.digit.ensures.0 in
    let f = key-digit a.code a.args.now 1 _ c.digit-2.result e (omega (arith, c.if-args-eq2.true)) c.digit-2.ensures.0 in
    (key-whole a.code a.args.now 2 _ c.if-args-eq2.true f, omega (arith, x, y, p.0))

pub overflow_mul-result : goal.overflow_mul-result
overflow_mul-result c = let p = c.requires in
    let x : c.digit.result < 512 = c.digit.ensures.1 in
    let y : c.digit-2.result < 512 = c.digit-2.ensures.1 in
    omega (arith, x, y, p.0)

pub digit-requires-3 : goal.digit-requires-3
digit-requires-3 c = let a = c.args in let p = c.requires in value-under 256 a.args.now p.1 2 (omega (arith, p.2, p.3, c.if-args-eq1.false, c.if-args-eq2.false))

pub overflow_add-result : goal.overflow_add-result
overflow_add-result c = let p = c.requires in
    let n : length c.args.args.now ≡ 3 = omega (arith, p.2, p.3, c.if-args-eq1.false, c.if-args-eq2.false) in
    let x : c.digit.result < 512 = c.digit.ensures.1 in
    let y : c.digit-2.result < 512 = c.digit-2.ensures.1 in
    let z : c.digit-3.result < 512 = c.digit-3.ensures.1 in
    omega (arith, x, y, z, p.0)

pub returns : goal.returns
returns c = let a = c.args in
    let p = c.requires in
    let n : length a.args.now ≡ 3 = omega (arith, p.2, p.3, c.if-args-eq1.false, c.if-args-eq2.false) in
    let x : c.digit.result < 512 = c.digit.ensures.1 in
    let y : c.digit-2.result < 512 = c.digit-2.ensures.1 in
    let z : c.digit-3.result < 512 = c.digit-3.ensures.1 in
    let e = key-digit a.code a.args.now 0 a.code c.digit.result (key-none a.code (digits a.args.now)) (omega (arith, n)) c.digit.ensures.0 in
    let f = key-digit a.code a.args.now 1 _ c.digit-2.result e (omega (arith, n)) c.digit-2.ensures.0 in
    let g = key-digit a.code a.args.now 2 _ c.digit-3.result f (omega (arith, n)) c.digit-3.ensures.0 in
    (key-whole a.code a.args.now 3 _ n g, omega (arith, x, y, z, p.0))
