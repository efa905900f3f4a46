-- `lines::write` meets its contract: the first line, its end, the second, its end. Assumes nothing.
use native.Mathlib.Omega.{arith}
use Rattle.text.specs.Text.{ascii}
use Rattle.text.proofs.Puts.{put-put}
use Rattle.lines.specs.Lines.{second_line, lines_of}
use Rattle.text.proofs.Lengths.{after-near}
use Rattle.lines.proofs.write.Goals as goal

pub put_byte-requires : goal.put_byte-requires
unfolding ascii
put_byte-requires c = omega (arith, after-near (ascii "entries ") c.used_of.result (omega arith) c.put_after-last.ensures, c.put_byte-next.ensures.place, c.first_line-end.ensures.result_bound)

pub returns : goal.returns
unfolding ascii second_line lines_of
returns c = record {
  put = put-put
      (put-put
      (put-put c.first_line-end.ensures.put c.put_byte-next.ensures)
      (rw c.used_of.ensures at c.put_after-last.ensures))
      c.put_byte.ensures;
  upper_bound = omega (arith, after-near (ascii "entries ") c.used_of.result (omega arith) c.put_after-last.ensures, c.put_byte-next.ensures.place, c.first_line-end.ensures.result_bound, c.put_byte.ensures.place);
}
