-- `spell::put_head` meets its contract: each call puts the next part of the head. Assumes nothing.
use native.Mathlib.Omega.{arith}
use Rattle.spell.proofs.Heads.{head-vec, head-mat, head_plain}
use Rattle.text.proofs.Puts.{put-put}
use Rattle.text.proofs.Decimals.{dec-long}
use Rattle.spell.proofs.Texts.{text-long}
use Rattle.spell.proofs.put_head.Goals as goal

pub put_dec-requires : goal.put_dec-requires
put_dec-requires c = omega (arith, c.put_text-a.ensures.place, text-long c.word.result)

pub returns-then-e-eq-KIND_VEC : goal.returns-then-e-eq-KIND_VEC
returns-then-e-eq-KIND_VEC c =
    let e = c.args.e in
    rw (head-vec e c.if-e-eq-KIND_VEC.true) (put-put (rw c.word.ensures at c.put_text-a.ensures) c.put_dec.ensures)

pub put_dec-b-requires : goal.put_dec-b-requires
put_dec-b-requires c = omega (arith, c.put_text-a.ensures.place, text-long c.word.result)

pub put_byte-rows-requires : goal.put_byte-rows-requires
put_byte-rows-requires c = omega (arith, c.put_text-a.ensures.place, text-long c.word.result, c.put_dec-b.ensures.place, dec-long c.args.e.p)

pub put_dec-requires-then-e-eq-KIND_MAT : goal.put_dec-requires-then-e-eq-KIND_MAT
put_dec-requires-then-e-eq-KIND_MAT c = omega (arith, c.put_text-a.ensures.place, text-long c.word.result, c.put_dec-b.ensures.place, dec-long c.args.e.p, c.put_byte-rows.ensures.place)

pub returns-then-e-eq-KIND_MAT : goal.returns-then-e-eq-KIND_MAT
returns-then-e-eq-KIND_MAT c =
    let e = c.args.e in
    rw (head-mat e c.if-e-eq-KIND_MAT.true)
    (put-put (put-put (put-put (rw c.word.ensures at c.put_text-a.ensures) c.put_dec-b.ensures) c.put_byte-rows.ensures) c.put_dec-then-e-eq-KIND_MAT.ensures)

pub returns : goal.returns
returns c =
    let e = c.args.e in
    rw (head_plain e c.if-e-eq-KIND_VEC.false c.if-e-eq-KIND_MAT.false) (rw c.word.ensures at c.put_text-a.ensures)
