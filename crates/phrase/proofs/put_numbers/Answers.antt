-- `phrase::put_numbers` meets its contract. The loop's invariant: the first i texts are put. Assumes nothing.
use Prim.Native.Nat.{ℕ}
use mathlib.Core.Path.{sym, ◌∙◌, ap}
use mathlib.Core.List.{List, ◌++◌}
use native.Mathlib.Omega.{arith}
use lib.ListN.{take}
use lib.Seq.{take_all}
use Rattle.text.specs.Text.{ascii, decimal}
use Rattle.text.proofs.Decimals.{dec-twenty}
use Rattle.text.proofs.Puts.{put-nothing, put-put, put_as, put-long}
use Rattle.phrase.specs.Phrase.{apart}
use Rattle.phrase.specs.inner.Gap.{gap_at}
use Rattle.phrase.proofs.Phrasing.{apart_next, gap-long, ranked, ranked-at, ranked-long}
use Rattle.phrase.proofs.put_numbers.Goals as goal

pub loop-i-init : goal.loop-i-init
unfolding apart
loop-i-init c = (put-nothing _ _, omega arith)

pub put_gap-b-requires : goal.put_gap-b-requires
unfolding ascii
put_gap-b-requires c = omega (arith, c.loop-i.invariant.1)

pub bounds-xs-i : goal.bounds-xs-i
bounds-xs-i c = omega (arith, c.requires.2)

pub cost-rank-requires : goal.cost-rank-requires
cost-rank-requires c = c.requires.1 c.loop-i.i c.loop-i-test.true

pub put_number-a-requires : goal.put_number-a-requires
unfolding ascii
put_number-a-requires c = omega (arith, c.put_gap-b.ensures.place, gap-long c.loop-i.i (ascii " "), c.loop-i.invariant.1, c.requires.0)

pub loop-i-preserved : goal.loop-i-preserved
unfolding ascii
loop-i-preserved c = let a = c.args in let l = c.loop-i in let e = c.wide.ensures ∙ c.cost-rank.ensures in (put_as (ap (λ (t : List ℕ). apart (ascii " ") (take l.i (ranked a.ps.now a.xs.now)) ++ gap_at l.i (ascii " ") ++ t) (ap decimal e ∙ sym (ranked-at a.ps.now a.xs.now c.requires.2 l.i c.loop-i-test.true)) ∙ sym (apart_next (ascii " ") (ranked a.ps.now a.xs.now) l.i (omega (arith, ranked-long a.ps.now a.xs.now c.requires.2)))) (put-put (put-put l.invariant.0 c.put_gap-b.ensures) c.put_number-a.ensures), omega (arith, c.put_gap-b.ensures.place, gap-long l.i (ascii " "), c.put_number-a.ensures.place, dec-twenty c.wide.result (omega arith), l.invariant.1))

pub shape_of-out : goal.shape_of-out
shape_of-out c = put-long c.loop-i.invariant.0

pub returns : goal.returns
returns c = let a = c.args in let l = c.loop-i in record { put = put_as (ap (apart (ascii " ")) (take_all l.i (ranked a.ps.now a.xs.now) (omega (arith, ranked-long a.ps.now a.xs.now c.requires.2)))) l.invariant.0; upper_bound = omega (arith, l.invariant.1, c.loop-i.auto.i-end) }
