-- `call_ty::all_operands` meets its contract. Assumes nothing.
use Prim.Native.Nat.{ℕ}
use mathlib.Core.Path.{◌∙◌}
use lib.Dec.{ltb}
use Rattle.std.proofs.Common.{rules, tests}
use Rattle.std.proofs.lemmas.Iterator.{YieldsList-from_slice}
use Rattle.std.proofs.lemmas.Iterator.Search.{all_from_yields_List}
use Rattle.held.specs.Held.{number_of}
use Rattle.call_ty.proofs.Lists.{numbers-all}
use Rattle.call_ty.proofs.all_operands.Goals as goal

pub returns : goal.returns
returns c = let a = c.args in
    all_from_yields_List (λ (v : ℕ). ltb (number_of v) a.n) _ _ _ c.all.ensures.ran (YieldsList-from_slice _ c.iter.ensures.rest) (λ x b q k. search (rules, tests)) ∙ numbers-all a.n a.args.now
