-- `lines::refused_line` meets its contract: each call puts the next part of the line. Assumes nothing.
use mathlib.Core.Path.{sym, ◌∙◌, ap}
use native.Mathlib.Omega.{arith}
use Rattle.lines.proofs.Refusing.{refused-short, refused-lacking, not-nine}
use Rattle.text.proofs.Lengths.{after-near}
use Rattle.text.proofs.Puts.{put-put}
use Rattle.text.specs.Text.{ascii}
use Rattle.answer.specs.Answer.{reason_no, lacking_of}
use Rattle.lines.proofs.refused_line.Goals as goal

pub put_after-b-requires : goal.put_after-b-requires
unfolding ascii
put_after-b-requires c = omega (arith, after-near (ascii "refused ") c.wide.result (omega (arith, c.wide.ensures)) c.put_after-a.ensures)

pub put_after-requires : goal.put_after-requires
unfolding ascii
put_after-requires c = let a = c.args in
    omega (arith, after-near (ascii "refused ") c.wide.result (omega (arith, c.wide.ensures)) c.put_after-a.ensures, after-near (ascii " at ") a.r.place.0 (omega arith) c.put_after-b.ensures)

pub returns-in-NoRoom : goal.returns-in-NoRoom
unfolding ascii
returns-in-NoRoom c = let a = c.args in record { put = refused-lacking a.r (ap reason_no c.in-NoRoom.is) (c.word.ensures ∙ sym (ap lacking_of c.in-NoRoom.is)) (put-put (rw (c.wide.ensures, c.from-number.ensures) at c.put_after-a.ensures) c.put_after-b.ensures) c.put_after.ensures; result_bound = omega (arith, after-near (ascii "refused ") c.wide.result (omega (arith, c.wide.ensures)) c.put_after-a.ensures, after-near (ascii " at ") a.r.place.0 (omega arith) c.put_after-b.ensures, after-near (ascii " lacking ") c.word.result (omega (arith, c.word.ensures)) c.put_after.ensures) }

pub returns-in_default : goal.returns-in_default
unfolding ascii
returns-in_default c = let a = c.args in let d = c.in_default in record { put = refused-short a.r (not-nine a.r.reason d.not-NoRoom) (put-put (rw (c.wide.ensures, c.from-number.ensures) at c.put_after-a.ensures) c.put_after-b.ensures); result_bound = omega (arith, after-near (ascii "refused ") c.wide.result (omega (arith, c.wide.ensures)) c.put_after-a.ensures, after-near (ascii " at ") a.r.place.0 (omega arith) c.put_after-b.ensures) }
