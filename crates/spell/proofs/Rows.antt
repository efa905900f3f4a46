-- What a type that there is says of its parts: its scalar, its space, its access and its element. Assumes nothing.
use Prim.Native.Nat.{ℕ, ◌≤◌, ◌<◌}
use mathlib.Core.Path.{◌≡◌}
use mathlib.Core.Bool.{Bool, true, ◌&&◌, not}
use native.Mathlib.Omega.{arith}
use lib.Dec.{leb, ltb}
use borrow.Author.Tests.{ltb-true, leb-true}
use Rattle.conv.specs.Types.{Ty, is_float, is_width, is_value, is_runtime, abstract_ty, formed}
use Rattle.conv.specs.Types.Ty.{scalar, vec, mat, array, runtime, atomic, ptr, ref, exchange}
use Rattle.table.proofs.SoundLaws.{and_left, and_right}
use Rattle.table.proofs.KindLaws.{float-scalar, int-scalar}

pub scalar-row : (s : ℕ) → formed (scalar s) ≡ true → s < 7
unfolding formed
scalar-row s h = ltb-true _ _ h

pub vec-row : (n s : ℕ) → formed (vec n s) ≡ true → s < 7
unfolding formed
vec-row n s h = ltb-true _ _ (and_right (is_width n) (ltb s 7) h)

pub mat-row : (c r s : ℕ) → formed (mat c r s) ≡ true → s < 7
unfolding formed
mat-row c r s h = float-scalar s (and_right (is_width c && is_width r) (is_float s) h)

pub atomic-row : (s : ℕ) → formed (atomic s) ≡ true → s < 7
unfolding formed
atomic-row s h = int-scalar s h

pub exchange-row : (s : ℕ) → formed (exchange s) ≡ true → s < 7
unfolding formed
exchange-row s h = int-scalar s h

pub array_row : (k : ℕ) (t : Ty) → formed (array k t) ≡ true → formed t ≡ true
unfolding formed
array_row k t h = and_right (leb 1 k && (is_value t && not (is_runtime t))) (formed t) h

pub runtime-row : (t : Ty) → formed (runtime t) ≡ true → formed t ≡ true
unfolding formed
runtime-row t h = and_right (is_value t && not (is_runtime t)) (formed t) h

-- a pointer's spaces end at 4, a reference's at 5
space-row : (p a m : ℕ) (c d t : Bool) → m ≤ 5 → (leb p m && leb a 2 && c && d && t) ≡ true → (p < 6) × (a < 3) × (t ≡ true)
space-row p a m c d t k h =
    let z : (leb p m && leb a 2) ≡ true = and_left _ c (and_left _ d (and_left _ t h)) in
    (omega (arith, leb-true p m (and_left _ _ z)), omega (arith, leb-true a 2 (and_right (leb p m) _ z)), and_right (leb p m && leb a 2 && c && d) t h)

pub ptr-row : (p a : ℕ) (t : Ty) → formed (ptr p a t) ≡ true → (p < 6) × (a < 3) × (formed t ≡ true)
unfolding formed
ptr-row p a t h = space-row p a 4 (is_value t) (not (abstract_ty t)) (formed t) (omega arith) h

pub ref-row : (p a : ℕ) (t : Ty) → formed (ref p a t) ≡ true → (p < 6) × (a < 3) × (formed t ≡ true)
unfolding formed
ref-row p a t h = space-row p a 5 (is_value t) (not (abstract_ty t)) (formed t) (omega arith) h
