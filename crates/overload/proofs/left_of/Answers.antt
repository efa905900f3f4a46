-- `overload::left_of` meets its contract: the concrete scalars are the bits of one number. Assumes nothing.
use Rattle.std.proofs.Common.{ap, ◌∙◌}
use Rattle.conv.specs.Rank.{both}
use Rattle.overload.specs.Overload.{or}
use Rattle.overload.specs.inner.Code.{has}
use Rattle.overload.proofs.Sets.{has-and, has-concrete, common-small, both_yes}
use Rattle.overload.proofs.left_of.Goals as goal

pub returns-then-running : goal.returns-then-running
unfolding or
returns-then-running c = (common-small _ _ c.requires, λ t h. rw c.if-running.true (has-and _ _ t ∙ ap (both (has c.args.set t)) (has-concrete t h)))

pub returns : goal.returns
unfolding or
returns c = (c.requires, λ t h. rw c.if-running.false (both_yes (has c.args.set t)))
