-- `table::rest_good` meets its contract. The loop has passed good entries alone, which stand on their ways. Assumes nothing.
use mathlib.Core.Path.{◌≡◌, sym, ◌∙◌}
use mathlib.Core.Bool.{true, false}
use native.Mathlib.Omega.{arith}
use Rattle.table.specs.Table.{good_at}
use Rattle.table.proofs.TableLaws.{all_more, all-stop}
use Rattle.table.proofs.SlotLaws.{scalars-good}
use Rattle.table.proofs.rest_good.Goals as goal

pub loop-i-init : goal.loop-i-init
loop-i-init c = let w = c.args.words.now in (omega arith, scalars-good w c.requires.3, c.scalars-passed.ensures w)

pub returns-then-not-good_next : goal.returns-then-not-good_next
returns-then-not-good_next c =
    let a = c.args in
    let e : good_at a.words.now c.loop-i.i ≡ false = sym c.good_next.ensures.good ∙ c.if-not-good_next.true in
    sym (all-stop (good_at a.words.now) c.loop-i.i a.n e c.loop-i-test.true)

pub loop-i-preserved : goal.loop-i-preserved
loop-i-preserved c =
    let a = c.args in
    let l = c.loop-i.invariant in
    let low = l.0 in
    let e : good_at a.words.now c.loop-i.i ≡ true = sym c.good_next.ensures.good ∙ c.if-not-good_next.false in
    (omega arith, all_more (good_at a.words.now) c.loop-i.i l.1 e, c.good_next.ensures.passed c.if-not-good_next.false)
