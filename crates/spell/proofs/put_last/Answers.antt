-- `spell::put_last` meets its contract: each call puts the next part. Assumes nothing.
use Prim.Native.Nat.{◌+◌}
use native.Mathlib.Omega.{arith}
use Rattle.spell.proofs.Heads.{last-array, last-space, last_none}
use Rattle.text.proofs.Puts.{put-nothing, put-put}
use Rattle.text.proofs.Decimals.{dec-long}
use Rattle.spell.proofs.Texts.{text-long}
use Rattle.spell.proofs.put_last.Goals as goal

pub returns-then-e-eq-KIND_ARRAY : goal.returns-then-e-eq-KIND_ARRAY
returns-then-e-eq-KIND_ARRAY c = let e = c.args.e in record { put = rw (last-array e c.if-e-eq-KIND_ARRAY.true) (put-put c.put_byte-count.ensures c.put_dec.ensures); upper_bound = omega (arith, c.put_byte-count.ensures.place, c.put_dec.ensures.place, dec-long e.p) }

pub returns-then-e : goal.returns-then-e
returns-then-e c = let e = c.args.e in record { put = rw (last-space e c.if-e-eq-KIND_ARRAY.false c.if-e.true) (put-put c.put_byte-access.ensures (rw c.word.ensures at c.put_text.ensures)); upper_bound = omega (arith, c.put_byte-access.ensures.place, c.put_text.ensures.place, text-long (◌+◌ 23 c.word.result)) }

pub returns : goal.returns
returns c = record { put = rw (last_none c.args.e c.if-e-eq-KIND_ARRAY.false c.if-e.false) (put-nothing _ _); upper_bound = omega arith }
