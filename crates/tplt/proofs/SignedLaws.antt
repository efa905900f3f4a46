-- What the tests on a signed literal say of it, by the cases of its sign. Assumes nothing.
use Prim.Native.Nat.{ℕ, ◌≤◌, ◌<◌, ◌^◌}
use mathlib.Core.Path.{◌≡◌, refl, sym, ◌∙◌, ap}
use mathlib.Core.Bool.{Bool, true, false, cond}
use native.Mathlib.Omega.{arith}
use lib.Dec.{leb}
use lib.IntN.{ℤ, pos, negsuc, nat_abs}
use lib.Signed.{le_z, mag}
use borrow.Author.Tests.{leb-true, leb-false, le-ltb, lt-ltb, le-leb, lt-leb, ne_eqb}
use mir.Syntax.{w32, w64}
use mir.Val.{SFits, to_z, of_z}
use mir.ValLaws.{to_z-of_z, to_z_pos}
use Rattle.std.specs.Int.{FitsUnsignedBits}
use Rattle.tplt.specs.Params.{type_param, i32_param, u32_param, param_of, count_z}
use Rattle.tplt.specs.declared.param.TpltParam.TheVariants.{Typed, NoType, AbstractInt, I32, U32, Other}
use Rattle.std.specs.Prelude.{Ok, Err}
use Rattle.answer.specs.declared.Reason.TheVariants.{Count}

-- A TYPE'S NUMBER

pub type-none : (n : ℕ) (v : ℤ) → SFits w64 v → (FitsUnsignedBits 64 v → ⊥) → NoType ≡ type_param n v
unfolding type_param
type-none n (pos k) f h = absurd (h (omega (arith, f.sfits)))
type-none n (negsuc k) f h = refl

pub type-high : (n : ℕ) (v : ℤ) (t : ℕ) → FitsUnsignedBits 64 v × (t ≡ nat_abs v) → n ≤ t → NoType ≡ type_param n v
unfolding type_param
type-high n (pos k) t r l = rw (le-ltb k n (omega (arith, r.1)))
type-high n (negsuc k) t r l = refl

pub type-low : (n : ℕ) (v : ℤ) (t : ℕ) → FitsUnsignedBits 64 v × (t ≡ nat_abs v) → t < n → Typed (record { 0 = t }) ≡ type_param n v
unfolding type_param
type-low n (pos k) t r l = rw (r.1, lt-ltb k n (omega (arith, r.1)))
type-low n (negsuc k) t r l = absurd r.0

-- A LITERAL OF i32

pub i32-in : (v : ℤ) → SFits w32 v → I32 v ≡ i32_param v
unfolding i32_param
i32-in (pos k) f = rw (le-leb k 2147483647 (omega (arith, f.sfits)))
i32-in (negsuc k) f = rw (le-leb k 2147483647 (omega (arith, f.sfits)))

pub i32-none : (v : ℤ) → (SFits w32 v → ⊥) → Other ≡ i32_param v
unfolding i32_param
i32-none (pos k) h = go (leb k 2147483647) refl
  where
    go : (b : Bool) → leb k 2147483647 ≡ b → Other ≡ cond b (I32 (pos k)) Other
    go true e = let l = leb-true k 2147483647 e in absurd (h (record { sfits = omega arith }))
    go false e = refl
i32-none (negsuc k) h = go (leb k 2147483647) refl
  where
    go : (b : Bool) → leb k 2147483647 ≡ b → Other ≡ cond b (I32 (negsuc k)) Other
    go true e = let l = leb-true k 2147483647 e in absurd (h (record { sfits = omega arith }))
    go false e = refl

-- A LITERAL OF u32

under : (k : ℕ) → (k < 2 ^ 32 → ⊥) → leb k 4294967295 ≡ false
under k h = lt-leb k 4294967295 (omega (arith, h))

pub u32-in : (v : ℤ) (x : ℕ) → FitsUnsignedBits 32 v × (x ≡ nat_abs v) → U32 x ≡ u32_param v
unfolding u32_param
u32-in (pos k) x r = rw (r.1, le-leb k 4294967295 (omega (arith, r.0)))
u32-in (negsuc k) x r = absurd r.0

pub u32-none : (v : ℤ) → (FitsUnsignedBits 32 v → ⊥) → Other ≡ u32_param v
unfolding u32_param
u32-none (pos k) h = rw (under k h)
u32-none (negsuc k) h = refl

-- THE COUNT OF AN ARRAY

pub count_under : (v : ℤ) → le_z v (pos 0) ≡ true → Err Count ≡ count_z v
unfolding count_z
count_under (pos k) h = let l = leb-true k 0 h in rw (lt-leb 1 k (omega arith))
count_under (negsuc k) h = refl

pub count-in : (v : ℤ) (x : ℕ) → le_z v (pos 0) ≡ false → FitsUnsignedBits 32 v × (x ≡ nat_abs v) → Ok x ≡ count_z v
unfolding count_z
count-in (pos k) x a r = let g = leb-false k 0 a in rw (r.1, le-leb 1 k (omega arith), le-leb k 4294967295 (omega (arith, r.0)))
count-in (negsuc k) x a r = absurd r.0

pub count-none : (v : ℤ) → le_z v (pos 0) ≡ false → (FitsUnsignedBits 32 v → ⊥) → Err Count ≡ count_z v
unfolding count_z
count-none (pos k) a h = let g = leb-false k 0 a in rw (le-leb 1 k (omega arith), under k h)
count-none (negsuc k) a h = refl

-- THE TAG OF A PAIR

-- a tag of these bits is that number
pub tag_is : (z : ℤ) → SFits w64 z → (t : ℕ) → t < 2 ^ 63 → of_z w64 z ≡ t → z ≡ pos t
tag_is z f t l h = sym (to_z-of_z w64 z f) ∙ ap (to_z w64) h ∙ to_z_pos w64 t l

module _ (n : ℕ) (z v : ℤ) (f : SFits w64 z) where
  pub tag-type : of_z w64 z ≡ 0 → type_param n v ≡ param_of n z v
  unfolding param_of
  tag-type h = let q = tag_is z f 0 (omega arith) h in sym (ap (λ (u : ℤ). param_of n u v) q)

  pub tag-abstract : of_z w64 z ≡ 1 → AbstractInt v ≡ param_of n z v
  unfolding param_of
  tag-abstract h = let q = tag_is z f 1 (omega arith) h in sym (ap (λ (u : ℤ). param_of n u v) q)

  pub tag-i32 : of_z w64 z ≡ 2 → i32_param v ≡ param_of n z v
  unfolding param_of
  tag-i32 h = let q = tag_is z f 2 (omega arith) h in sym (ap (λ (u : ℤ). param_of n u v) q)

  pub tag-u32 : of_z w64 z ≡ 3 → u32_param v ≡ param_of n z v
  unfolding param_of
  tag-u32 h = let q = tag_is z f 3 (omega arith) h in sym (ap (λ (u : ℤ). param_of n u v) q)

-- any other tag
pub tag-other : (n : ℕ) (z v : ℤ) → (of_z w64 z ≡ 0 → ⊥) → (of_z w64 z ≡ 1 → ⊥) → (of_z w64 z ≡ 2 → ⊥) → (of_z w64 z ≡ 3 → ⊥) → Other ≡ param_of n z v
unfolding param_of
tag-other n (pos t) v a b c d = rw (ne_eqb t 0 a, ne_eqb t 1 b, ne_eqb t 2 c, ne_eqb t 3 d)
tag-other n (negsuc t) v a b c d = refl

-- the argument of a pair that is read from a slice
pub pair-back : (n : ℕ) (t v : ℤ) → mag t < 2 ^ 63 → mag v < 2 ^ 63 → param_of n (to_z w64 (of_z w64 t)) (to_z w64 (of_z w64 v)) ≡ param_of n t v
pair-back n t v a b = λ i. param_of n (to_z-of_z w64 t (record { sfits = a }) i) (to_z-of_z w64 v (record { sfits = b }) i)
