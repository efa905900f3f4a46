-- `overload::tables::set_line` meets its contract: a line for each set, whose bits antt computes. Assumes nothing.
use Rattle.std.proofs.Common.{get_or, arith}
use Rattle.conv.specs.Rank.{both}
use Rattle.conv.proofs.Finite.{same}
use Rattle.overload.specs.Overload.{or}
use Rattle.overload.specs.inner.Code as code
use Rattle.overload.specs.inner.Code.{Scalars}
use Rattle.overload.specs.declared.tables.TheConstants.{SETS}
use Rattle.overload.proofs.Lines.{read, set-lines, no-set-line}
use Rattle.overload.proofs.tables.set_line.Goals as goal

pub returns : goal.returns
unfolding both or same code.bit code.has code.member
returns c = read Scalars SETS 0 (set-lines 16 (λ k. get_or SETS k 0) tt) (λ k h. no-set-line tt (omega arith)) c.args.k _ c.line.ensures
