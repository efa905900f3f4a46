-- `overload::tables::reached_at` meets its contract: a line for each component, whose sets antt computes. Assumes nothing.
use Rattle.std.proofs.Common.{get_or}
use Rattle.conv.specs.Rank.{both, rank_of}
use Rattle.conv.proofs.Finite.{same}
use Rattle.overload.specs.Overload.{or}
use Rattle.overload.specs.Rows.{component_at}
use Rattle.overload.specs.inner.Code as code
use Rattle.overload.specs.declared.tables.TheConstants.{REACHED}
use Rattle.overload.proofs.Lines.{reached-lines}
use Rattle.overload.proofs.tables.reached_at.Goals as goal

pub returns : goal.returns
unfolding both or same rank_of component_at code.bit code.has code.component_of_no
returns c = reached-lines 9 (λ k. get_or REACHED k 0) tt c.args.of c.requires
