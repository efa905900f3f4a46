-- `why::put_fitting` meets its contract. The first run puts into no bytes, and so gives the length alone. Assumes nothing.
use mathlib.Core.Path.{◌∙◌}
use native.Mathlib.Nat.{zero-add}
use native.Mathlib.Omega.{arith}
use Rattle.reasons.specs.Reasons.{together}
use Rattle.why.specs.inner.Asks.{asked_pieces, Short}
use Rattle.why.proofs.Texts.{written-long, written-fits}
use Rattle.why.proofs.put_fitting.Goals as goal

pub returns-then-out-len : goal.returns-then-out-len
unfolding Short
returns-then-out-len c = let a = c.args in let s = together (asked_pieces a.words.now a.args.now a.asked) in record { written = written-long a.n s a.out.now (omega (arith, c.put_all-len.ensures.put.place)); short = tt }

pub returns : goal.returns
unfolding Short
returns c = let a = c.args in let s = together (asked_pieces a.words.now a.args.now a.asked) in let y = c.put_all.ensures.put in rw (y.place ∙ zero-add _, y.bytes) (record { written = written-fits a.n s a.out.now (omega (arith, c.put_all-len.ensures.put.place)); short = omega (arith, y.place, c.put_all.ensures.upper_bound) })
