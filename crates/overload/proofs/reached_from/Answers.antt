-- `overload::reached_from` meets its contract: computed for every scalar. Assumes nothing.
use Rattle.conv.specs.Rank.{both, rank_of}
use Rattle.conv.proofs.Finite.{same, same-eq, below₂}
use Rattle.overload.specs.inner.Code.{entry, bit, has, reaches}
use Rattle.overload.proofs.reached_from.Goals as goal

pub returns : goal.returns
unfolding both same rank_of has bit
returns c = λ t h. same-eq _ _ (below₂ 7 7 (λ s t. same (has (entry 8 18049617315790337 s) t) (reaches s t)) tt c.args.s t c.requires h)
