-- `why::has_ruling` meets its contract: the rules that are told about are counted up. Assumes nothing.
use Prim.Native.Nat.{ℕ}
use mathlib.Core.Path.{◌≡◌, ◌∙◌}
use mathlib.Core.Bool.{Bool, true, false, ◌||◌}
use native.Mathlib.Omega.{arith}
use lib.Dec.{eqb, ltb}
use Rattle.std.proofs.lemmas.Bool.Decides.{nat_tests}
use Rattle.why.proofs.Rules.{has-ruling}
use Rattle.why.proofs.has_ruling.Goals as goal

abbrev told : ℕ → Bool
told k = ltb k 100 || eqb k 101 || eqb k 104 || eqb k 105 || eqb k 106 || eqb k 107 || eqb k 108

pub returns-in-0-to-99 : goal.returns-in-0-to-99
returns-in-0-to-99 c = let e : true ≡ told c.args.rule = grind (arith, nat_tests) in e ∙ has-ruling _

pub returns-in-0-to-99-2 : goal.returns-in-0-to-99-2
returns-in-0-to-99-2 c = let e : true ≡ told c.args.rule = grind (arith, nat_tests) in e ∙ has-ruling _

pub returns-in-0-to-99-3 : goal.returns-in-0-to-99-3
returns-in-0-to-99-3 c = let e : true ≡ told c.args.rule = grind (arith, nat_tests) in e ∙ has-ruling _

pub returns-in_default : goal.returns-in_default
returns-in_default c = let e : false ≡ told c.args.rule = grind (arith, nat_tests) in e ∙ has-ruling _

pub returns-in_default-2 : goal.returns-in_default-2
returns-in_default-2 c = let e : false ≡ told c.args.rule = grind (arith, nat_tests) in e ∙ has-ruling _
