-- `conv::board` meets its contract: the 49 ranks are those of the definition, which antt computes. Assumes nothing.
use borrow.Author.Rules.{rules}
use mathlib.Core.Path.{◌∙◌, ap}
use Rattle.conv.specs.Rank.{both, rank_of, found}
use Rattle.conv.proofs.Finite as finite
use Rattle.conv.specs.declared.TheConstants.{RANK}
use Rattle.conv.proofs.board.Goals as goal

pub returns : goal.returns
unfolding both rank_of
returns c =
    let a = c.args in
    c.found.ensures ∙ ap found (finite.board rank_of 7 7 RANK tt a.from a.to (search rules) (search rules))
