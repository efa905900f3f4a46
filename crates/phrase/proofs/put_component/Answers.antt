-- `phrase::put_component` meets its contract. Assumes nothing.
use native.Mathlib.Omega.{arith}
use Rattle.text.specs.Text.{ascii}
use Rattle.text.proofs.Puts.{put-put, put_as}
use Rattle.spell.proofs.Texts.{text-long}
use Rattle.phrase.proofs.Phrasing.{scalar-text}
use Rattle.phrase.proofs.put_component.Goals as goal

pub put_byte-requires : goal.put_byte-requires
put_byte-requires c = omega (arith, c.put_text-b.ensures.place, text-long c.args.s)

pub returns : goal.returns
unfolding ascii
returns c = let n = scalar-text c.args.s c.requires.1 in record { put = put-put (put-put c.put_byte-a.ensures (put_as n c.put_text-b.ensures)) c.put_byte.ensures; upper_bound = omega (arith, c.put_byte-a.ensures.place, c.put_text-b.ensures.place, c.put_byte.ensures.place, text-long c.args.s) }
