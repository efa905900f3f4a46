-- `call_ty::any_running` meets its contract. Assumes nothing.
use mathlib.Core.Path.{◌∙◌}
use Rattle.std.proofs.Common.{rules, tests}
use Rattle.std.proofs.lemmas.Iterator.{YieldsList-from_slice}
use Rattle.std.proofs.lemmas.Iterator.Search.{any_from_yields_List}
use Rattle.held.specs.Held.{mark_of}
use Rattle.call_ty.proofs.Lists.{running-any}
use Rattle.call_ty.proofs.any_running.Goals as goal

pub returns : goal.returns
returns c = any_from_yields_List mark_of _ _ _ c.any.ensures.ran (YieldsList-from_slice _ c.iter.ensures.rest) (λ x b q k. search (rules, tests)) ∙ running-any c.args.args.now
