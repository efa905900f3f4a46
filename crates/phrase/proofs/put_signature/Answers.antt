-- `phrase::put_signature` meets its contract. Assumes nothing.
use native.Mathlib.Omega.{arith}
use Rattle.text.specs.Text.{ascii}
use Rattle.text.proofs.Puts.{put-put}
use Rattle.phrase.specs.Phrase.{signature}
use Rattle.phrase.proofs.put_signature.Goals as goal

pub returns : goal.returns
unfolding signature ascii
returns c = record { put = put-put (put-put c.put_byte-a.ensures c.put_params-b.ensures.put) c.put_byte.ensures; upper_bound = omega (arith, c.put_byte-a.ensures.place, c.put_params-b.ensures.upper_bound, c.put_byte.ensures.place) }
