-- `names::ends_blank` meets its contract. Assumes nothing.
use Prim.Native.Nat.{ℕ, ◌≤◌, ◌-◌}
use mathlib.Core.Path.{sym, ap}
use native.Mathlib.Omega.{arith}
use lib.Dec.{eqb}
use lib.ListN.{length, get_or-eq_default}
use Rattle.names.specs.inner.Table.{blank, ends_blank}
use Rattle.names.proofs.ends_blank.Goals as goal

pub returns-in-Some : goal.returns-in-Some
unfolding ends_blank
returns-in-Some c = ap (λ (b : ℕ). eqb b blank) (c.in-Some.ensures.item.3.1 0)

pub returns-in-None : goal.returns-in-None
unfolding ends_blank
returns-in-None c =
    let none : length c.args.name.now ≤ length c.args.name.now - 1 = omega (arith, c.in-None.ensures.item.3) in
    sym (ap (λ (b : ℕ). eqb b blank) (get_or-eq_default c.args.name.now 0 none))
