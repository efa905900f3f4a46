-- `text::put_text` meets its contract. The loop's invariant: the first j bytes of the text stand there. Assumes nothing.
use mathlib.Core.Path.{◌≡◌, refl, ◌∙◌, ap}
use native.Mathlib.Omega.{arith}
use lib.ListN.{length, take}
use lib.Seq.{sets, length-sets, take_all}
use Rattle.text.proofs.Puts.{put-more}
use Rattle.text.proofs.put_text.Goals as goal

pub loop-j-init : goal.loop-j-init
loop-j-init c = refl

pub loop-j-preserved : goal.loop-j-preserved
loop-j-preserved c =
    let a = c.args in
    c.put_byte.ensures.bytes ∙ put-more a.out.now c.loop-j.out a.at c.loop-j.j a.text.now 0 (omega arith) c.loop-j.invariant

pub shape_of-out : goal.shape_of-out
shape_of-out c = ap length c.loop-j.invariant ∙ simp length-sets

pub returns : goal.returns
returns c =
    let a = c.args in
    let e : take c.loop-j.j a.text.now ≡ a.text.now = take_all c.loop-j.j a.text.now (omega arith) in
    record { place = omega arith; bytes = c.loop-j.invariant ∙ ap (sets a.out.now a.at) e }
