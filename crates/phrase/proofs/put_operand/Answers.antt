-- `phrase::put_operand` meets its contract. Assumes nothing.
use Prim.Native.Nat.{◌+◌}
use native.Mathlib.Omega.{arith}
use Rattle.text.specs.Text.{ascii}
use Rattle.text.proofs.Puts.{put-put}
use Rattle.text.proofs.Lengths.{after-near}
use Rattle.phrase.specs.Phrase.{operand_at}
use Rattle.phrase.proofs.put_operand.Goals as goal

pub put_text-requires : goal.put_text-requires
unfolding ascii
put_text-requires c = omega (arith, after-near (ascii "operand ") (c.args.k + 1) (omega arith) c.put_after-a.ensures)

pub returns : goal.returns
unfolding ascii operand_at
returns c = record { put = put-put c.put_after-a.ensures c.put_text.ensures; upper_bound = omega (arith, after-near (ascii "operand ") (c.args.k + 1) (omega arith) c.put_after-a.ensures, c.put_text.ensures.place) }
