-- `listing::sizes_line` meets its contract: a line for each list of sizes, whose numbers antt computes. Assumes nothing.
use mathlib.Core.Path.{refl}
use lib.ListN.{get_or}
use Rattle.conv.specs.Rank.{both}
use Rattle.overload.specs.inner.Code as code
use Rattle.overload.proofs.Lines.{read}
use Rattle.listing.specs.declared.TheConstants.{SIZES}
use Rattle.listing.specs.inner.Places.{SizesLine}
use Rattle.listing.proofs.Lines.{sizes_test, sizes-lines, no-sizes-line}
use Rattle.listing.proofs.sizes_line.Goals as goal

pub returns : goal.returns
unfolding both code.size_no code.shape_no sizes_test
returns c = read SizesLine SIZES 0 (sizes-lines 10 (λ k. get_or SIZES k 0) tt) (λ k h. no-sizes-line refl h) c.args.k _ c.line.ensures
