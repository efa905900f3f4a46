-- `overload::tables::sizes_line` meets its contract: a line for each list of sizes, whose bits antt computes. Assumes nothing.
use Rattle.std.proofs.Common.{get_or, arith}
use Rattle.conv.specs.Rank.{both}
use Rattle.conv.proofs.Finite.{same}
use Rattle.overload.specs.Overload.{or}
use Rattle.overload.specs.inner.Code as code
use Rattle.overload.specs.inner.Code.{Sizes}
use Rattle.overload.specs.declared.tables.TheConstants.{SIZES}
use Rattle.overload.proofs.Lines.{read, sizes-lines, no-sizes-line}
use Rattle.overload.proofs.tables.sizes_line.Goals as goal

pub returns : goal.returns
unfolding both or same code.bit code.has code.shape_of_no code.size_of_no code.same_size code.mem_size
returns c = read Sizes SIZES 0 (sizes-lines 16 (λ k. get_or SIZES k 0) tt) (λ k h. no-sizes-line tt (omega arith)) c.args.k _ c.line.ensures
