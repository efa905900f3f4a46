-- `spell::put_closing` meets its contract: what stands last, and then `>`. Assumes nothing.
use native.Mathlib.Omega.{arith}
use Rattle.text.specs.Text.{ascii}
use Rattle.spell.specs.inner.Parts.{closing}
use Rattle.text.proofs.Puts.{put-put}
use Rattle.spell.proofs.put_closing.Goals as goal

pub put_byte-requires : goal.put_byte-requires
put_byte-requires c = omega (arith, c.put_last-end.ensures.upper_bound)

pub returns : goal.returns
unfolding closing ascii
returns c = put-put c.put_last-end.ensures.put c.put_byte.ensures
