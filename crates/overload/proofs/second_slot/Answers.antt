-- `overload::second_slot` meets its contract. Assumes nothing.
use Rattle.std.proofs.Common.{sym, ◌∙◌, eq-eqb, ne_eqb}
use Rattle.overload.specs.Overload.{or}
use Rattle.overload.proofs.Sets.{has_all}
use Rattle.overload.proofs.second_slot.Goals as goal

pub returns-then-of-ne-OF_I : goal.returns-then-of-ne-OF_I
unfolding or
returns-then-of-ne-OF_I c = λ i h. has_all i h ∙ sym (rw (ne_eqb _ 7 c.if-of-ne-OF_I.true))

pub returns : goal.returns
unfolding or
returns c = λ i h. c.reached_from.ensures i h ∙ sym (rw (eq-eqb _ 7 c.if-of-ne-OF_I.false))
