-- `text::number_in` meets its contract. The loop's invariant: the digits before `b` are read and make `n`, which has 32 bits. Where a byte is no digit, or
-- the digits make more, the text is no number whatever follows. Assumes nothing.
use borrow.Author.Tests.{eqb-true, eqb-false}
use Rattle.std.proofs.Common.{◌≡◌, ◌-◌, ◌∙◌, sym, get_or, arith}
use Rattle.text.proofs.Numbers.{nothing, none_read, all_read, no_digit, too_large, digit-read}
use Rattle.text.proofs.number_in.Goals as goal

pub returns-then-is_empty : goal.returns-then-is_empty
returns-then-is_empty c = nothing _ (eqb-true _ _ (sym c.if-is_empty.ensures))

pub loop-b-init : goal.loop-b-init
loop-b-init c = none_read _

pub returns-then-not-is_digit : goal.returns-then-not-is_digit
returns-then-not-is_digit c = no_digit _ _ _ c.loop-b.invariant c.loop-b-test.true (sym c.is_digit.ensures ∙ c.if-not-is_digit.true)

pub returns-then-n-ge-LIMIT : goal.returns-then-n-ge-LIMIT
returns-then-n-ge-LIMIT c = too_large _ _ _ c.loop-b.invariant c.loop-b-test.true (omega (arith, c.if-n-ge-LIMIT.true, c.from.ensures))

pub loop-b-preserved : goal.loop-b-preserved
loop-b-preserved c =
    let e : c.from.result ≡ get_or c.args.text.now c.loop-b.b-index 0 - 48 = c.from.ensures in
    rw e (digit-read _ _ _ c.loop-b.invariant c.loop-b-test.true (sym c.is_digit.ensures ∙ c.if-not-is_digit.false) (omega (arith, c.if-n-ge-LIMIT.false, e)))

pub returns : goal.returns
returns c = all_read _ _ _ c.loop-b.invariant (omega (arith, c.loop-b-test.false)) (eqb-false _ _ (sym c.if-is_empty.ensures))
