-- `overload::first_of` meets its contract: the lowest bit, for every set of scalars. Assumes nothing.
use Rattle.std.proofs.Common.{arith, sym, ap, ◌∙◌}
use Rattle.std.specs.Prelude.{Some}
use Rattle.conv.specs.Rank.{found}
use Rattle.conv.proofs.Answered.{found-there}
use Rattle.overload.proofs.Sets.{lowest-first, none_first, lowest-seven}
use Rattle.overload.proofs.first_of.Goals as goal

pub returns-then-w-eq0 : goal.returns-then-w-eq0
returns-then-w-eq0 c = ap found (none_first c.args.w c.if-w-eq0.true)

pub overflow_shr-result : goal.overflow_shr-result
overflow_shr-result c = let l = lowest-seven c.args.w c.requires c.if-w-eq0.false in omega (arith, l)

pub returns : goal.returns
returns c =
    let l = lowest-first c.args.w c.requires c.if-w-eq0.false in
    sym (found-there _ (λ e. omega arith) ∙ ap Some (sym l))
