-- What a type's number tells of it: whether it is a scalar or a vector, and its component. Assumes nothing.
use Prim.Native.Nat.{ℕ, ◌%◌, ◌≤◌, ◌<◌}
use mathlib.Core.Path.{◌≡◌, refl, sym, ◌∙◌, ap}
use mathlib.Core.Bool.{Bool, true, false, ◌&&◌, ◌||◌}
use native.Mathlib.Omega.{arith}
use lib.Dec.{ltb, leb}
use borrow.Author.Tests.{ltb-true, ltb-false, lt-ltb, le-ltb, le-leb, lt-leb}
use Rattle.conv.specs.Types.{Ty, formed, is_width}
use Rattle.conv.specs.Types.Ty.{scalar, vec, mat, array, runtime, atomic, ptr, ref, frexp, modf, exchange}
use Rattle.conv.specs.Rank.{shape_of, tag_of, component_of}
use Rattle.overload.specs.inner.Code.{code_of}
use Rattle.overload.proofs.Operands.{code-scalar, code-vec, code-mat, code_other, between, float_small, and_left, and_right}
use Rattle.table.proofs.KindLaws.{split}
use Rattle.call_ty.specs.Calls.{is_scalar, is_vector, is_numeric, wide_numeric}
use Rattle.call_ty.specs.inner.Codes.{numeric_code}

pub record Parts (t : Ty) (x : ℕ) : Type 0 where
  pub single : is_scalar t ≡ ltb x 7
  pub many : is_vector t ≡ (leb 7 x && ltb x 28)
  pub component : component_of t ≡ x % 7

-- a type that is neither scalar nor vector
beyond : (t : Ty) (x : ℕ) → is_scalar t ≡ false → is_vector t ≡ false → 28 ≤ x → component_of t ≡ x % 7 → Parts t x
beyond t x a b h e =
    record { single = a ∙ sym (le-ltb x 7 (omega arith)); many = b ∙ sym (rw (le-leb 7 x (omega arith), le-ltb x 28 h)); component = e }

pub parts : (t : Ty) → formed t ≡ true → Parts t (code_of t)
unfolding formed shape_of tag_of component_of
parts (scalar s) h =
    let l = ltb-true s 7 h in
    let e = code-scalar s in
    let b : code_of (scalar s) < 7 = omega arith in
    record { single = sym (lt-ltb (code_of (scalar s)) 7 b); many = sym (rw (lt-leb 7 (code_of (scalar s)) b)); component = omega arith }
parts (vec n s) h =
    let l = ltb-true s 7 (and_right (is_width n) _ h) in
    let b = between n (and_left (is_width n) _ h) in
    let lo = b.0 in
    let hi = b.1 in
    let e = code-vec n s (and_left (is_width n) _ h) in
    let x = code_of (vec n s) in
    record { single = sym (le-ltb x 7 (omega arith)); many = sym (rw (le-leb 7 x (omega arith), lt-ltb x 28 (omega arith))); component = omega arith }
parts (mat c r s) h =
    let hc = and_left (is_width c) _ (and_left (is_width c && is_width r) _ h) in
    let hr = and_right (is_width c) _ (and_left (is_width c && is_width r) _ h) in
    let l = float_small s (and_right (is_width c && is_width r) _ h) in
    let b = between c hc in
    let d = between r hr in
    let lo = b.0 in
    let lo2 = d.0 in
    let e = code-mat c r s hc hr in
    beyond (mat c r s) (code_of (mat c r s)) refl refl (omega arith) (omega arith)
parts (array k t) h = let e = code_other (array k t) refl in beyond (array k t) _ refl refl (omega arith) (omega arith)
parts (runtime t) h = let e = code_other (runtime t) refl in beyond (runtime t) _ refl refl (omega arith) (omega arith)
parts (atomic s) h = let e = code_other (atomic s) refl in beyond (atomic s) _ refl refl (omega arith) (omega arith)
parts (ptr a b t) h = let e = code_other (ptr a b t) refl in beyond (ptr a b t) _ refl refl (omega arith) (omega arith)
parts (ref a b t) h = let e = code_other (ref a b t) refl in beyond (ref a b t) _ refl refl (omega arith) (omega arith)
parts (frexp t) h = let e = code_other (frexp t) refl in beyond (frexp t) _ refl refl (omega arith) (omega arith)
parts (modf t) h = let e = code_other (modf t) refl in beyond (modf t) _ refl refl (omega arith) (omega arith)
parts (exchange s) h = let e = code_other (exchange s) refl in beyond (exchange s) _ refl refl (omega arith) (omega arith)

-- a scalar or a vector
either : (x : ℕ) → (ltb x 7 || (leb 7 x && ltb x 28)) ≡ ltb x 28
either x =
    split (ltb x 7) (λ b. let l = ltb-true x 7 b in rw (b, lt-ltb x 28 (omega arith)))
    (λ b. rw (b, le-leb 7 x (ltb-false x 7 b)))

-- the test of `bitcast`'s template type, by the number
pub numeric-by : (t : Ty) → formed t ≡ true → wide_numeric t ≡ numeric_code (code_of t)
unfolding wide_numeric
numeric-by t f =
    let p = parts t f in
    (λ i. (p.single i || p.many i) && is_numeric (p.component i)) ∙ ap (λ (b : Bool). b && is_numeric (code_of t % 7)) (either (code_of t))
