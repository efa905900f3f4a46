-- `reasons::chosen_line` meets its contract. Assumes nothing.
use native.Mathlib.Omega.{arith}
use Rattle.text.specs.Text.{ascii}
use Rattle.text.proofs.Puts.{put-put}
use Rattle.reasons.specs.Reasons.{chosen_line}
use Rattle.reasons.proofs.chosen_line.Goals as goal

pub put_signature-a-requires : goal.put_signature-a-requires
put_signature-a-requires c = (omega (arith, c.requires.3, c.requires.2), c.requires.0)

pub put_text-b-requires : goal.put_text-b-requires
unfolding ascii
put_text-b-requires c = omega (arith, c.requires.3, c.requires.2, c.put_signature-a.ensures.upper_bound)

pub put_ranks-c-requires : goal.put_ranks-c-requires
unfolding ascii
put_ranks-c-requires c = (omega (arith, c.requires.3, c.requires.2, c.put_signature-a.ensures.upper_bound, c.put_text-b.ensures.place), c.requires.0, c.requires.1)

pub put_byte-requires : goal.put_byte-requires
unfolding ascii
put_byte-requires c = omega (arith, c.requires.3, c.requires.2, c.put_signature-a.ensures.upper_bound, c.put_text-b.ensures.place, c.put_ranks-c.ensures.upper_bound)

pub returns : goal.returns
unfolding ascii chosen_line
returns c = record { put = put-put (put-put (put-put c.put_signature-a.ensures.put c.put_text-b.ensures) c.put_ranks-c.ensures.put) c.put_byte.ensures; upper_bound = omega (arith, c.requires.2, c.put_signature-a.ensures.upper_bound, c.put_text-b.ensures.place, c.put_ranks-c.ensures.upper_bound, c.put_byte.ensures.place) }
