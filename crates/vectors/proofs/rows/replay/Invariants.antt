-- What the lines that are left lead to, all lines lead to.
use Rattle.vectors.specs.Lines.{lines_of}
use Rattle.vectors.specs.Replay.{no_counts, Replays}
use Rattle.vectors.proofs.rows.replay.Given as goal

abbrev pub invariant-loop-line : goal.invariant-loop-line
invariant-loop-line g l =
    (q : _) → Replays g.R.Rows.line_gives (lines_of l.line-iterator.0.now) l.rows l.counts q
    → Replays g.R.Rows.line_gives (lines_of l.input) l.initial.rows no_counts q
