-- `arguments::profile_of` meets its contract: a case for each answer. Assumes nothing.
use Rattle.std.proofs.Common.{◌∙◌, ap, arith, unwrap_or}
use borrow.Author.Tests.{lt-ltb, le-ltb}
use Rattle.arguments.specs.Profile.{no_profile}
use Rattle.arguments.proofs.profile_of.Goals as goal

pub returns-then-words-lt2 : goal.returns-then-words-lt2
returns-then-words-lt2 c = rw (lt-ltb c.args.words 2 (omega arith))

pub returns : goal.returns
returns c = rw (le-ltb c.args.words 2 (omega arith)) (c.unwrap_or.ensures ∙ ap (λ x. unwrap_or x no_profile) c.number_in.ensures)
