-- Cases on a test and on a kind, and what a type tells of its words. Assumes nothing.
use Prim.Native.Nat.{ℕ, ◌≤◌, ◌<◌}
use mathlib.Core.Path.{◌≡◌, refl}
use mathlib.Core.Bool.{Bool, true, false, ◌&&◌, ◌||◌}
use native.Mathlib.Omega.{arith}
use lib.Dec.{eqb, ltb}
use borrow.Author.Tests.{eqb-true, ne_eqb, ltb-true, ltb-false}
use Rattle.conv.specs.Types.{Ty, i32, u32, is_float, is_abstract, abstract_ty, is_fract, is_value, is_runtime}
use Rattle.conv.specs.Types.Ty.{scalar, vec, mat, array, runtime, atomic, ptr, ref, frexp, modf, exchange}
use Rattle.table.specs.Table.{scalars, kind_vec, kind_mat, kind_array, kind_runtime, kind_atomic, kind_ptr, kind_ref, kind_frexp, kind_modf, kind_exchange, stored}
use Rattle.conv.specs.Rank.{element_of}
use Rattle.table.specs.Denote.{kind_of}

-- the two cases of a test
pub split : {P : Type 0} (b : Bool) → (b ≡ true → P) → (b ≡ false → P) → P
split true f g = f refl
split false f g = g refl

pub clash : {P : Type 0} {b : Bool} → b ≡ true → b ≡ false → P
clash p q = absurd (let z : ◌≡◌ {A = ℕ} 0 1 = cc in omega arith)

-- the ten kinds above the scalars, and any other
pub by_kind : {P : Type 0} (k : ℕ) →
    (k ≡ kind_vec → P) → (k ≡ kind_mat → P) → (k ≡ kind_array → P) → (k ≡ kind_runtime → P) → (k ≡ kind_atomic → P) →
    (k ≡ kind_ptr → P) → (k ≡ kind_ref → P) → (k ≡ kind_frexp → P) → (k ≡ kind_modf → P) → (k ≡ kind_exchange → P) →
    (eqb k kind_vec ≡ false → eqb k kind_mat ≡ false → eqb k kind_array ≡ false → eqb k kind_runtime ≡ false → eqb k kind_atomic ≡ false →
    eqb k kind_ptr ≡ false → eqb k kind_ref ≡ false → eqb k kind_frexp ≡ false → eqb k kind_modf ≡ false → eqb k kind_exchange ≡ false → P) → P
by_kind k a b c d e f g h i j other =
    split (eqb k kind_vec) (λ t. a (eqb-true _ _ t)) (λ n1.
    split (eqb k kind_mat) (λ t. b (eqb-true _ _ t)) (λ n2.
    split (eqb k kind_array) (λ t. c (eqb-true _ _ t)) (λ n3.
    split (eqb k kind_runtime) (λ t. d (eqb-true _ _ t)) (λ n4.
    split (eqb k kind_atomic) (λ t. e (eqb-true _ _ t)) (λ n5.
    split (eqb k kind_ptr) (λ t. f (eqb-true _ _ t)) (λ n6.
    split (eqb k kind_ref) (λ t. g (eqb-true _ _ t)) (λ n7.
    split (eqb k kind_frexp) (λ t. h (eqb-true _ _ t)) (λ n8.
    split (eqb k kind_modf) (λ t. i (eqb-true _ _ t)) (λ n9.
    split (eqb k kind_exchange) (λ t. j (eqb-true _ _ t)) (λ n10. other n1 n2 n3 n4 n5 n6 n7 n8 n9 n10))))))))))

-- a component is a scalar
pub float-scalar : (s : ℕ) → is_float s ≡ true → s < scalars
float-scalar s h =
    split (ltb s scalars) (λ t. ltb-true _ _ t)
    (λ t. let l : scalars ≤ s = ltb-false _ _ t in clash h (rw (ne_eqb s 2 (omega arith), ne_eqb s 5 (omega arith), ne_eqb s 6 (omega arith))))

pub int-scalar : (s : ℕ) → (eqb s i32 || eqb s u32) ≡ true → s < scalars
int-scalar s h =
    split (ltb s scalars) (λ t. ltb-true _ _ t)
    (λ t. let l : scalars ≤ s = ltb-false _ _ t in clash h (rw (ne_eqb s 3 (omega arith), ne_eqb s 4 (omega arith))))

-- the scalar within a type, and whether it is a scalar
unfoldable pub innermost : Ty → ℕ
innermost (scalar s) = s
innermost (vec n s) = s
innermost (mat c r s) = s
innermost (array k t) = innermost t
innermost (runtime t) = innermost t
innermost (atomic s) = s
innermost (ptr space access t) = innermost t
innermost (ref space access t) = innermost t
innermost (frexp t) = innermost t
innermost (modf t) = innermost t
innermost (exchange s) = s

unfoldable pub is_scalar : Ty → Bool
is_scalar (scalar s) = true
is_scalar (vec n s) = false
is_scalar (mat c r s) = false
is_scalar (array k t) = false
is_scalar (runtime t) = false
is_scalar (atomic s) = false
is_scalar (ptr space access t) = false
is_scalar (ref space access t) = false
is_scalar (frexp t) = false
is_scalar (modf t) = false
is_scalar (exchange s) = false

-- the scalar within a type is that of its element
pub innermost-step : (t : Ty) → innermost t ≡ innermost (element_of t)
unfolding innermost element_of
innermost-step (scalar s) = refl
innermost-step (vec n s) = refl
innermost-step (mat c r s) = refl
innermost-step (array k t) = refl
innermost-step (runtime t) = refl
innermost-step (atomic s) = refl
innermost-step (ptr space access t) = refl
innermost-step (ref space access t) = refl
innermost-step (frexp t) = refl
innermost-step (modf t) = refl
innermost-step (exchange s) = refl

-- abstract at any depth is abstract within
pub abstract-innermost : (t : Ty) → is_abstract (innermost t) ≡ abstract_ty t
unfolding innermost abstract_ty
abstract-innermost (scalar s) = refl
abstract-innermost (vec n s) = refl
abstract-innermost (mat c r s) = refl
abstract-innermost (array k t) = abstract-innermost t
abstract-innermost (runtime t) = abstract-innermost t
abstract-innermost (atomic s) = refl
abstract-innermost (ptr space access t) = abstract-innermost t
abstract-innermost (ref space access t) = abstract-innermost t
abstract-innermost (frexp t) = abstract-innermost t
abstract-innermost (modf t) = abstract-innermost t
abstract-innermost (exchange s) = refl

pub and-false : (a : Bool) → (a && false) ≡ false
and-false true = refl
and-false false = refl

pub and-true : (a : Bool) → (a && true) ≡ a
and-true true = refl
and-true false = refl

-- the tests of the rules on the kind of elem, told of its type
pub stored-kind : (t : Ty) → is_scalar t ≡ false → stored (kind_of t) ≡ is_value t
unfolding is_scalar kind_of is_value
stored-kind (scalar s) h = clash refl h
stored-kind (vec n s) h = refl
stored-kind (mat c r s) h = refl
stored-kind (array k t) h = refl
stored-kind (runtime t) h = refl
stored-kind (atomic s) h = refl
stored-kind (ptr space access t) h = refl
stored-kind (ref space access t) h = refl
stored-kind (frexp t) h = refl
stored-kind (modf t) h = refl
stored-kind (exchange s) h = refl

pub runtime-kind : (t : Ty) → is_scalar t ≡ false → eqb (kind_of t) kind_runtime ≡ is_runtime t
unfolding is_scalar kind_of is_runtime
runtime-kind (scalar s) h = clash refl h
runtime-kind (vec n s) h = refl
runtime-kind (mat c r s) h = refl
runtime-kind (array k t) h = refl
runtime-kind (runtime t) h = refl
runtime-kind (atomic s) h = refl
runtime-kind (ptr space access t) h = refl
runtime-kind (ref space access t) h = refl
runtime-kind (frexp t) h = refl
runtime-kind (modf t) h = refl
runtime-kind (exchange s) h = refl

pub fract-kind : (t : Ty) → is_scalar t ≡ false → (is_float (innermost t) && eqb (kind_of t) kind_vec) ≡ is_fract t
unfolding is_scalar kind_of is_fract innermost
fract-kind (scalar s) h = clash refl h
fract-kind (vec n s) h = and-true (is_float s)
fract-kind (mat c r s) h = and-false (is_float s)
fract-kind (array k t) h = and-false (is_float (innermost t))
fract-kind (runtime t) h = and-false (is_float (innermost t))
fract-kind (atomic s) h = and-false (is_float s)
fract-kind (ptr space access t) h = and-false (is_float (innermost t))
fract-kind (ref space access t) h = and-false (is_float (innermost t))
fract-kind (frexp t) h = and-false (is_float (innermost t))
fract-kind (modf t) h = and-false (is_float (innermost t))
fract-kind (exchange s) h = and-false (is_float s)
