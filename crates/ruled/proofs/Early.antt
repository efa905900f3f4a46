-- Document 02, K3, where no operand is running: nothing is dropped, 14 is not given, and a ruled call does what it did before there were marks. What it did stands here as
-- definitions of its own. Assumes nothing.
use Prim.Native.Nat.{ℕ}
use native.Mathlib.Omega.{arith}
use mathlib.Core.Path.{◌≡◌, refl, ap, subst}
use mathlib.Core.Bool.{Bool, true, false, cond}
use mathlib.Core.List.{List, [], ◌∷◌}
use lib.Dec.{T}
use borrow.Author.Tests.{leb-false}
use Rattle.held.specs.Held.{running_bit, number_of, mark_of}
use Rattle.conv.specs.Types.{Ty}
use Rattle.conv.specs.Rank.{both}
use Rattle.overload.specs.Overload.{Overload, or, Judged, judge}
use Rattle.overload.specs.Marks.{any_running, running_abstract}
use Rattle.conv.specs.Types.Ty.{scalar, exchange}
use Rattle.overload.specs.Rows.{Ruling, overloads_of, judge_address, judge_indirection, judge_atomic, judge_load, judge_length, alone, judge_by}
use Rattle.overload.specs.Rows.Ruling.{by_row, address, indirection, on_atomic, comparing, uniform_load, array_length}
use Rattle.overload.proofs.Marks.{const-all}
use Rattle.table.specs.Placing.{Outcome, turned_down}
use Rattle.answer.specs.declared.Reason.TheVariants.{Reference}
use Rattle.ruled.specs.Call.{judged_outcome, offends, ruled_outcome}

-- THE BASE: a row is judged by all of its overloads; 3, then 8, 9. What came later has no overload that marks drop

unfoldable pub base_judge : Ruling → List Ty → Judged
base_judge (by_row r) ts = judge (overloads_of r) ts
base_judge address ts = alone judge_address ts
base_judge indirection ts = alone judge_indirection ts
base_judge (on_atomic k) ts = judge_atomic k scalar ts
base_judge comparing ts = judge_atomic 2 exchange ts
base_judge uniform_load ts = alone judge_load ts
base_judge array_length ts = alone judge_length ts

unfoldable pub base_ruled : ℕ → List ℕ → ℕ → Ruling → List Ty → Outcome
base_ruled place w n r ts = cond (offends r ts) (turned_down Reference place w n) (judged_outcome place w n (base_judge r ts))

-- A CONST OPERAND is its type's number
pub const-number : (v : ℕ) → mark_of v ≡ false → number_of v ≡ v
const-number v e = let l = leb-false running_bit v e in omega arith

-- ALL OPERANDS CONST

pub const-clash : (ts : List Ty) (ms : List Bool) → any_running ms ≡ false → running_abstract ts ms ≡ false
unfolding any_running running_abstract both or
const-clash [] ms e = refl
const-clash (t ∷ ts) [] e = refl
const-clash (t ∷ ts) (true ∷ ms) e = absurd (subst T e tt)
const-clash (t ∷ ts) (false ∷ ms) e = const-clash ts ms e

pub const-judge : (r : Ruling) (ts : List Ty) (ms : List Bool) → any_running ms ≡ false → judge_by r ts ms ≡ base_judge r ts
unfolding judge_by base_judge
const-judge (by_row r) ts ms e = ap (λ (os : List Overload). judge os ts) (const-all (overloads_of r) ms e)
const-judge address ts ms e = refl
const-judge indirection ts ms e = refl
const-judge (on_atomic k) ts ms e = refl
const-judge comparing ts ms e = refl
const-judge uniform_load ts ms e = refl
const-judge array_length ts ms e = refl

pub const-ruled : (place : ℕ) (w : List ℕ) (n : ℕ) (r : Ruling) (ts : List Ty) (ms : List Bool) → any_running ms ≡ false → ruled_outcome place w n r ts ms ≡ base_ruled place w n r ts
unfolding ruled_outcome base_ruled
const-ruled place w n r ts ms e = rw (const-clash ts ms e, const-judge r ts ms e)
