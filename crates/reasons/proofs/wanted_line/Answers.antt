-- `reasons::wanted_line` meets its contract. Assumes nothing.
use native.Mathlib.Omega.{arith}
use Rattle.text.specs.Text.{ascii}
use Rattle.text.proofs.Puts.{put-put}
use Rattle.reasons.specs.Reasons.{wanted_line}
use Rattle.reasons.proofs.wanted_line.Goals as goal

pub put_is-a-requires : goal.put_is-a-requires
put_is-a-requires c = let p = c.requires in (p.0, p.1, p.2, omega (arith, p.4))

pub put_text-b-requires : goal.put_text-b-requires
put_text-b-requires c = omega (arith, c.requires.4, c.put_is-a.ensures.upper_bound)

pub put_text-c-requires : goal.put_text-c-requires
unfolding ascii
put_text-c-requires c = omega (arith, c.requires.4, c.requires.3, c.put_is-a.ensures.upper_bound, c.put_text-b.ensures.place)

pub put_byte-requires : goal.put_byte-requires
unfolding ascii
put_byte-requires c = omega (arith, c.requires.4, c.requires.3, c.put_is-a.ensures.upper_bound, c.put_text-b.ensures.place, c.put_text-c.ensures.place)

pub returns : goal.returns
unfolding ascii wanted_line
returns c = record { put = put-put (put-put (put-put c.put_is-a.ensures.put c.put_text-b.ensures) c.put_text-c.ensures) c.put_byte.ensures; upper_bound = omega (arith, c.requires.3, c.put_is-a.ensures.upper_bound, c.put_text-b.ensures.place, c.put_text-c.ensures.place, c.put_byte.ensures.place) }
