-- `conv::common` meets its contract: all 784 entries are what the rule of the common type says, which antt computes. Assumes nothing.
use borrow.Author.Rules.{rules}
use mathlib.Core.Path.{◌∙◌, ap}
use Rattle.conv.specs.Rank.{both, rank_of, shape_of, component_of, tag_of, first_of, second_of, element_of, same_ty, conversion_rank, made, plain, common_of, found}
use Rattle.conv.proofs.Finite.{board}
use Rattle.conv.specs.declared.TheConstants.{COMMON}
use Rattle.conv.proofs.common.Goals as goal

pub returns : goal.returns
unfolding both rank_of shape_of component_of tag_of first_of second_of element_of same_ty conversion_rank made plain common_of
returns c = c.found.ensures ∙ ap found (board common_of 28 28 COMMON tt c.args.a c.args.b (search rules) (search rules))
