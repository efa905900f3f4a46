-- `phrase::put_shaped` meets its contract: a scalar, a vector, a matrix. Assumes nothing.
use mathlib.Core.Path.{sym, ◌∙◌, ap}
use native.Mathlib.Omega.{arith}
use Prim.Native.Nat.{◌+◌, ◌-◌, ◌/◌, ◌%◌}
use Rattle.text.specs.Text.{ascii}
use Rattle.text.proofs.Puts.{put-put, put_as}
use Rattle.text.proofs.Lengths.{after-near}
use Rattle.spell.specs.inner.Parts.{text_of}
use Rattle.spell.proofs.Texts.{text-long}
use Rattle.phrase.proofs.Phrasing.{scalar-text, spelled-scalar, spelled-vec, spelled-mat}
use Rattle.phrase.proofs.put_shaped.Goals as goal

pub returns-then-x-lt-SCALARS : goal.returns-then-x-lt-SCALARS
returns-then-x-lt-SCALARS c = let a = c.args in record { put = put_as (ap text_of c.wide-s.ensures ∙ scalar-text (a.x % 7) (omega arith) ∙ sym (spelled-scalar a.x c.if-x-lt-SCALARS.true)) c.put_text.ensures; upper_bound = omega (arith, c.put_text.ensures.place, text-long c.wide-s.result) }

pub put_component-requires : goal.put_component-requires
unfolding ascii
put_component-requires c = (omega (arith, after-near (ascii "vec") (c.wide-shape.result + 1) (omega (arith, c.wide-shape.ensures)) c.put_after-a.ensures), omega (arith, c.wide-s.ensures))

pub returns-then-x-lt-PLAINS : goal.returns-then-x-lt-PLAINS
unfolding ascii
returns-then-x-lt-PLAINS c = let a = c.args in let w = c.wide-shape.ensures in let s = c.wide-s.ensures in record { put = put_as (sym (spelled-vec a.x c.if-x-lt-SCALARS.false c.if-x-lt-PLAINS.true)) (put-put (rw w at c.put_after-a.ensures) (rw s at c.put_component.ensures.put)); upper_bound = omega (arith, c.put_component.ensures.upper_bound, after-near (ascii "vec") (c.wide-shape.result + 1) (omega (arith, w)) c.put_after-a.ensures) }

pub put_after-b-requires : goal.put_after-b-requires
unfolding ascii
put_after-b-requires c = omega (arith, after-near (ascii "mat") ((c.wide-shape.result - 4) / 3 + 2) (omega (arith, c.wide-shape.ensures)) c.put_after-a-2.ensures)

pub put_component-requires-2 : goal.put_component-requires-2
unfolding ascii
put_component-requires-2 c = (omega (arith, after-near (ascii "mat") ((c.wide-shape.result - 4) / 3 + 2) (omega (arith, c.wide-shape.ensures)) c.put_after-a-2.ensures, after-near (ascii "x") ((c.wide-shape.result - 4) % 3 + 2) (omega (arith, c.wide-shape.ensures)) c.put_after-b.ensures), omega (arith, c.wide-s.ensures))

pub returns : goal.returns
unfolding ascii
returns c = let a = c.args in let w = c.wide-shape.ensures in let s = c.wide-s.ensures in record { put = put_as (sym (spelled-mat a.x c.if-x-lt-PLAINS.false c.requires.1)) (put-put (put-put (rw w at c.put_after-a-2.ensures) (rw w at c.put_after-b.ensures)) (rw s at c.put_component-2.ensures.put)); upper_bound = omega (arith, c.put_component-2.ensures.upper_bound, after-near (ascii "mat") ((c.wide-shape.result - 4) / 3 + 2) (omega (arith, w)) c.put_after-a-2.ensures, after-near (ascii "x") ((c.wide-shape.result - 4) % 3 + 2) (omega (arith, w)) c.put_after-b.ensures) }
