-- `call_ty::all_types` meets its contract. Assumes nothing.
use Prim.Native.Nat.{ℕ}
use mathlib.Core.Path.{◌∙◌}
use lib.Dec.{ltb}
use Rattle.std.proofs.Common.{rules, tests}
use Rattle.std.proofs.lemmas.Iterator.{YieldsList-from_slice}
use Rattle.std.proofs.lemmas.Iterator.Search.{all_from_yields_List}
use Rattle.call_ty.proofs.Lists.{under-all}
use Rattle.call_ty.proofs.all_types.Goals as goal

pub returns : goal.returns
returns c = let a = c.args in
    all_from_yields_List (λ (t : ℕ). ltb t a.n) _ _ _ c.all.ensures.ran (YieldsList-from_slice _ c.iter.ensures.rest) (λ x b q k. search (rules, tests)) ∙ under-all a.n a.list.now
