-- `spell::put_opening` meets its contract: each call puts the next part of what opens the arguments. Assumes nothing.
use Prim.Native.Nat.{◌+◌}
use native.Mathlib.Omega.{arith}
use Rattle.spell.proofs.Heads.{opening-space, opening-plain}
use Rattle.text.proofs.Puts.{put-put}
use Rattle.spell.proofs.Texts.{text-long}
use Rattle.spell.proofs.put_opening.Goals as goal

pub put_byte-requires : goal.put_byte-requires
put_byte-requires c = omega (arith, c.put_byte-a.ensures.place, c.put_text-b.ensures.place, text-long (◌+◌ 17 c.word.result))

pub returns-then-e : goal.returns-then-e
returns-then-e c =
    let e = c.args.e in
    rw (opening-space e c.if-e.true)
    (put-put (put-put c.put_byte-a.ensures (rw c.word.ensures at c.put_text-b.ensures)) c.put_byte.ensures)

pub returns : goal.returns
returns c = rw (opening-plain c.args.e c.if-e.false) c.put_byte-a.ensures
