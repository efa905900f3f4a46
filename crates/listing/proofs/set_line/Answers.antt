-- `listing::set_line` meets its contract: a line for each set, whose scalars antt computes. Assumes nothing.
use mathlib.Core.Path.{refl}
use lib.ListN.{get_or}
use Rattle.conv.specs.Rank.{both}
use Rattle.overload.proofs.Lines.{read}
use Rattle.listing.specs.declared.TheConstants.{SETS}
use Rattle.listing.specs.inner.Places.{SetLine}
use Rattle.listing.proofs.Lines.{set_test, set-lines, no-set-line}
use Rattle.listing.proofs.set_line.Goals as goal

pub returns : goal.returns
unfolding both set_test
returns c = read SetLine SETS 0 (set-lines 11 (λ k. get_or SETS k 0) tt) (λ k h. no-set-line refl h) c.args.k _ c.line.ensures
