-- `frame::marked_push` meets its contract: four bytes that the tests found are a push with a mark, and no other is (`Reading`). Assumes nothing.
use Rattle.frame.proofs.Reading.{marked-long, marked-near, marked-above, marked-is}
use Rattle.frame.proofs.marked_push.Goals as goal

pub returns-then-items-first-ne-MARKED_FOLLOWING : goal.returns-then-items-first-ne-MARKED_FOLLOWING
returns-then-items-first-ne-MARKED_FOLLOWING c = let a = c.args in marked-long a.items.now a.first c.requires.1 c.if-items-first-ne-MARKED_FOLLOWING.true

pub returns-then-items-first-lt-MARKED_BYTES : goal.returns-then-items-first-lt-MARKED_BYTES
returns-then-items-first-lt-MARKED_BYTES c = let a = c.args in marked-near a.items.now a.first c.requires.1 c.if-items-first-lt-MARKED_BYTES.true

pub returns-then-mark-gt-MARK_RUNNING : goal.returns-then-mark-gt-MARK_RUNNING
returns-then-mark-gt-MARK_RUNNING c = let a = c.args in marked-above a.items.now a.first c.requires.1 c.if-mark-gt-MARK_RUNNING.true

pub returns : goal.returns
returns c = let a = c.args in
    rw c.wide.ensures (marked-is a.items.now a.first c.requires.1 c.if-items-first-ne-MARKED_FOLLOWING.false c.if-items-first-lt-MARKED_BYTES.false c.if-mark-gt-MARK_RUNNING.false)
