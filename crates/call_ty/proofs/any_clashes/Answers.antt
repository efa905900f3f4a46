-- `call_ty::any_clashes` meets its contract: each operand is one of the table. Assumes nothing.
use Prim.Native.Nat.{ℕ, ◌<◌}
use mathlib.Core.Path.{◌∙◌, subst}
use lib.ListN.{length-map}
use Rattle.std.proofs.Common.{rules, tests}
use Rattle.std.proofs.lemmas.Grind.{get_or_default_zero}
use Rattle.std.proofs.lemmas.Iterator.{YieldsList-from_slice}
use Rattle.std.proofs.lemmas.Iterator.Adapters.{serves_from_places}
use Rattle.std.proofs.lemmas.Iterator.Search.{any_from_yields_List}
use Rattle.held.specs.Held.{number_of}
use Rattle.call_ty.proofs.Lists.{number_at, clashing, clashes-any}
use Rattle.call_ty.proofs.any_clashes.Goals as goal

pub any-requires-clause-callable : goal.any-requires-clause-callable
any-requires-clause-callable c =
    let a = c.args in
    serves_from_places (YieldsList-from_slice _ c.iter.ensures.rest) (λ x q k. search (rules, tests))
    (λ x k l e.
    let b : number_of x.now < a.n = rw (e ∙ get_or_default_zero a.args.now k x.now l) (subst (λ (t : ℕ). t < a.n) (number_at a.args.now k) (c.requires.1 k (rw (length-map a.args.now number_of) l))) in
    search rules)

pub returns : goal.returns
returns c = let a = c.args in
    any_from_yields_List (clashing a.words.now) _ _ _ c.any.ensures.ran (YieldsList-from_slice _ c.iter.ensures.rest) (λ x b q k. search (rules, tests)) ∙ clashes-any a.words.now a.args.now
