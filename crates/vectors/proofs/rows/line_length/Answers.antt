-- `vectors::line_length` meets its contract: the place of the first line end, or the bytes' length. Assumes nothing.
use Rattle.std.proofs.Common.{◌∙◌}
use Rattle.vectors.proofs.LineLaws.{end_of}
use Rattle.vectors.proofs.rows.line_length.Goals as goal

pub returns-clause-value : goal.returns-clause-value
returns-clause-value c = c.unwrap_or.ensures ∙ rw c.first_end.ensures (end_of _)
