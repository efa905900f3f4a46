-- No more sheets agree than were read.
use Rattle.std.proofs.Common.{◌≤◌}
use Rattle.replay_sheets.proofs.replay.Given as goal

abbrev pub invariant-loop-i : goal.invariant-loop-i
invariant-loop-i g l = l.right ≤ l.i-counter
