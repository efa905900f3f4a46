-- `frame::Items::has_marks` meets its contract: the version is the sheet's first byte. Assumes nothing.
use Rattle.std.proofs.Common.{rules}
use Rattle.frame.specs.inner.Items.{sheet_of}
use Rattle.frame.proofs.Items.has_marks.Goals as goal

pub returns : goal.returns
unfolding sheet_of
returns c = search rules
