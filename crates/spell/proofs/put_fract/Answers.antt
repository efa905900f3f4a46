-- `spell::put_fract` meets its contract: a vector's head and its scalar, or a scalar. Assumes nothing.
use native.Mathlib.Omega.{arith}
use Rattle.spell.proofs.Heads.{head-long, fract-vec, fract-scalar}
use Rattle.text.proofs.Puts.{put-put}
use Rattle.spell.proofs.put_fract.Goals as goal

pub put_byte-b-requires : goal.put_byte-b-requires
put_byte-b-requires c = omega (arith, c.put_head-a.ensures.place, head-long c.args.e)

pub put_fract_scalar-requires : goal.put_fract_scalar-requires
put_fract_scalar-requires c = omega (arith, c.put_head-a.ensures.place, head-long c.args.e, c.put_byte-b.ensures.place)

pub returns-then-e-eq-KIND_VEC : goal.returns-then-e-eq-KIND_VEC
returns-then-e-eq-KIND_VEC c =
    rw (fract-vec c.args.e c.if-e-eq-KIND_VEC.true)
    (put-put (put-put c.put_head-a.ensures c.put_byte-b.ensures) (rw c.word.ensures at c.put_fract_scalar.ensures))

pub returns : goal.returns
returns c = rw (fract-scalar c.args.e c.if-e-eq-KIND_VEC.false) (rw c.word-2.ensures at c.put_fract_scalar-2.ensures)
