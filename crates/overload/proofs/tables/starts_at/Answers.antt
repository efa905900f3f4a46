-- `overload::tables::starts_at` meets its contract: a line for each size, whose shapes antt computes. Assumes nothing.
use Rattle.std.proofs.Common.{get_or}
use Rattle.conv.specs.Rank.{both}
use Rattle.conv.proofs.Finite.{implies}
use Rattle.overload.specs.Rows.{form_at}
use Rattle.overload.specs.inner.Code as code
use Rattle.overload.specs.declared.tables.TheConstants.{STARTS}
use Rattle.overload.proofs.Lines.{starts-lines}
use Rattle.overload.proofs.tables.starts_at.Goals as goal

pub returns : goal.returns
unfolding both implies form_at code.shape_of_no code.shape_no code.size_of_no code.form_of_no code.asked_of
returns c = starts-lines 41 (λ n. get_or STARTS n 0) tt c.args.n c.requires
