-- `phrase::put_gap` meets its contract. Assumes nothing.
use borrow.Author.Tests.{eq-eqb, ne_eqb}
use Rattle.text.proofs.Puts.{put-nothing}
use Rattle.phrase.specs.inner.Gap.{gap_at}
use Rattle.phrase.proofs.put_gap.Goals as goal

pub returns-then-i-eq0 : goal.returns-then-i-eq0
unfolding gap_at
returns-then-i-eq0 c = rw (eq-eqb c.args.i 0 c.if-i-eq0.true) (put-nothing _ _)

pub returns : goal.returns
unfolding gap_at
returns c = rw (ne_eqb c.args.i 0 c.if-i-eq0.false) c.put_text.ensures
