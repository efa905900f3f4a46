-- `call_ty::numeric_code` meets its contract: every scalar but bool is numeric, which is computed. Assumes nothing.
use Prim.Native.Nat.{ℕ, ◌%◌, ◌≤◌, ◌<◌}
use mathlib.Core.Bool.{Bool, true, false, ◌||◌}
use mathlib.Core.Path.{◌≡◌, refl, sym, ap}
use native.Mathlib.Omega.{arith}
use lib.Dec.{T, eqb}
use borrow.Author.Tests.{eqb-true, lt-ltb, le-ltb}
use Rattle.conv.specs.Rank.{both}
use Rattle.conv.proofs.Finite.{below}
use Rattle.overload.proofs.Results.{T_true}
use Rattle.call_ty.specs.Calls.{is_numeric}
use Rattle.call_ty.proofs.numeric_code.Goals as goal

all-numeric : (s : ℕ) → s < 7 → 1 ≤ s → is_numeric s ≡ true
unfolding both
all-numeric s h l = go (eqb s 0) refl (below 7 (λ (k : ℕ). eqb k 0 || is_numeric k) tt s h)
  where
    go : (b : Bool) → eqb s 0 ≡ b → T (b || is_numeric s) → is_numeric s ≡ true
    go true e t = absurd (let z = eqb-true s 0 e in omega arith)
    go false e t = T_true _ t

bool-is-none : (s : ℕ) → s ≡ 0 → is_numeric s ≡ false
bool-is-none s e = ap is_numeric e

pub returns-in-1 : goal.returns-in-1
returns-in-1 c = let x = c.args.x in sym (rw (lt-ltb x 28 c.if-x-lt-PLAINS.true, all-numeric (x % 7) (omega arith) (omega arith)))

pub returns-in_default : goal.returns-in_default
returns-in_default c = let x = c.args.x in sym (rw (lt-ltb x 28 c.if-x-lt-PLAINS.true, bool-is-none (x % 7) (omega arith)))

pub returns-in_default-2 : goal.returns-in_default-2
returns-in_default-2 c = absurd (omega arith)

pub returns-else-x-lt-PLAINS : goal.returns-else-x-lt-PLAINS
returns-else-x-lt-PLAINS c = let x = c.args.x in let e = le-ltb x 28 c.if-x-lt-PLAINS.false in rw e
