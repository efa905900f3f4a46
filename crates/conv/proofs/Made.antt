-- Types that pass the test of being one are one; the rank of a conversion to a scalar, a vector or a matrix goes by shape and component.
-- Assumes nothing.
use Prim.Native.Nat.{ℕ, ◌<◌}
use mathlib.Core.Path.{◌≡◌, refl, sym, ◌∙◌, ap}
use mathlib.Core.Bool.{Bool, true, false, cond}
use lib.Dec.{T, eqb, ltb, eqb→eq, eqb_refl}
use borrow.Author.Tests.{lt-ltb, eq-eqb}
use Rattle.conv.specs.Types.{Ty}
use Rattle.conv.specs.Types.Ty.{scalar, vec, mat, array, runtime, atomic, ptr, ref, frexp, modf, exchange}
use Rattle.conv.specs.Rank.{pick, both, none, rank_of, Shape, form_of, columns_of, rows_of, shape_of, component_of, same_shape, by_component, tag_of, first_of, second_of, element_of, headed, same_ty, conversion_rank, made}
use Rattle.conv.specs.Rank.Shape.{one, vector, matrix, other}
use Rattle.conv.proofs.Finite.{both_left, both_right, both-pair}

-- a type from its constructor's number, its numbers, its component and its element
unfoldable pub remake : ℕ → ℕ → ℕ → ℕ → Ty → Ty
remake tag p q s e =
    cond (eqb tag 0) (scalar p)
    (cond (eqb tag 1) (vec p s)
    (cond (eqb tag 2) (mat p q s)
    (cond (eqb tag 3) (array p e)
    (cond (eqb tag 4) (runtime e)
    (cond (eqb tag 5) (atomic p)
    (cond (eqb tag 6) (ptr p q e)
    (cond (eqb tag 7) (ref p q e)
    (cond (eqb tag 8) (frexp e)
    (cond (eqb tag 9) (modf e) (exchange p))))))))))

pub remade : (u : Ty) → remake (tag_of u) (first_of u) (second_of u) (component_of u) (element_of u) ≡ u
unfolding remake tag_of first_of second_of component_of element_of
remade (scalar s) = refl
remade (vec n s) = refl
remade (mat c r s) = refl
remade (array k t) = refl
remade (runtime t) = refl
remade (atomic s) = refl
remade (ptr a b t) = refl
remade (ref a b t) = refl
remade (frexp t) = refl
remade (modf t) = refl
remade (exchange s) = refl

module _ (u : Ty) (tag a b : ℕ) (h : T (headed u tag a b)) where
  tag_is : tag ≡ tag_of u
  tag_is = sym (eqb→eq _ _ (both_left _ _ h))

  first-is : a ≡ first_of u
  first-is = sym (eqb→eq _ _ (both_left _ _ (both_right (eqb (tag_of u) tag) _ h)))

  second_is : b ≡ second_of u
  second_is = sym (eqb→eq _ _ (both_right (eqb (first_of u) a) _ (both_right (eqb (tag_of u) tag) _ h)))

  -- u, made again with another component or element that equals its own
  again : (s : ℕ) (e : Ty) → s ≡ component_of u → e ≡ element_of u → remake tag a b s e ≡ u
  again s e p q = (λ i. remake (tag_is i) (first-is i) (second_is i) (p i) (q i)) ∙ remade u

-- types that pass the test are one
pub same-ty : (t u : Ty) → T (same_ty t u) → t ≡ u
unfolding same_ty remake
same-ty (scalar s) u h = again u 0 s 0 h _ _ refl refl
same-ty (vec n s) u h = again u 1 n 0 (both_left _ _ h) s _ (sym (eqb→eq _ _ (both_right (headed u 1 n 0) _ h))) refl
same-ty (mat c r s) u h = again u 2 c r (both_left _ _ h) s _ (sym (eqb→eq _ _ (both_right (headed u 2 c r) _ h))) refl
same-ty (array k t) u h = again u 3 k 0 (both_left _ _ h) _ t refl (same-ty t (element_of u) (both_right (headed u 3 k 0) _ h))
same-ty (runtime t) u h = again u 4 0 0 (both_left _ _ h) _ t refl (same-ty t (element_of u) (both_right (headed u 4 0 0) _ h))
same-ty (atomic s) u h = again u 5 s 0 h _ _ refl refl
same-ty (ptr a b t) u h = again u 6 a b (both_left _ _ h) _ t refl (same-ty t (element_of u) (both_right (headed u 6 a b) _ h))
same-ty (ref a b t) u h = again u 7 a b (both_left _ _ h) _ t refl (same-ty t (element_of u) (both_right (headed u 7 a b) _ h))
same-ty (frexp t) u h = again u 8 0 0 (both_left _ _ h) _ t refl (same-ty t (element_of u) (both_right (headed u 8 0 0) _ h))
same-ty (modf t) u h = again u 9 0 0 (both_left _ _ h) _ t refl (same-ty t (element_of u) (both_right (headed u 9 0 0) _ h))
same-ty (exchange s) u h = again u 10 s 0 h _ _ refl refl

head-self : (tag a b : ℕ) → T (both (eqb tag tag) (both (eqb a a) (eqb b b)))
head-self tag a b = both-pair _ _ (eqb_refl tag) (both-pair _ _ (eqb_refl a) (eqb_refl b))

-- a type is one with itself
pub self-ty : (t : Ty) → T (same_ty t t)
unfolding same_ty tag_of first_of second_of component_of element_of
self-ty (scalar s) = head-self 0 s 0
self-ty (vec n s) = both-pair _ _ (head-self 1 n 0) (eqb_refl s)
self-ty (mat c r s) = both-pair _ _ (head-self 2 c r) (eqb_refl s)
self-ty (array k t) = both-pair _ _ (head-self 3 k 0) (self-ty t)
self-ty (runtime t) = both-pair _ _ (head-self 4 0 0) (self-ty t)
self-ty (atomic s) = head-self 5 s 0
self-ty (ptr a b t) = both-pair _ _ (head-self 6 a b) (self-ty t)
self-ty (ref a b t) = both-pair _ _ (head-self 7 a b) (self-ty t)
self-ty (frexp t) = both-pair _ _ (head-self 8 0 0) (self-ty t)
self-ty (modf t) = both-pair _ _ (head-self 9 0 0) (self-ty t)
self-ty (exchange s) = head-self 10 s 0

-- and converts to itself, at rank 0
pub self-rank : (t : Ty) → conversion_rank t t ≡ 0
unfolding conversion_rank
self-rank t = go (same_ty t t) (self-ty t)
  where
    go : (x : Bool) → T x → pick x 0 (by_component t t) ≡ 0
    go true h = refl
    go false h = absurd h

pub shape-made : (p : Shape) (s : ℕ) → shape_of (made p s) ≡ p
unfolding made shape_of
shape-made one s = refl
shape-made (vector n) s = refl
shape-made (matrix c r) s = refl
shape-made other s = refl

pub component-made : (p : Shape) (s : ℕ) → T (ltb (form_of p) 3) → component_of (made p s) ≡ s
unfolding made component_of
component-made one s h = refl
component-made (vector n) s h = refl
component-made (matrix c r) s h = refl
component-made other s h = absurd h

pub same-shape-self : (p : Shape) → T (ltb (form_of p) 3) → T (same_shape p p)
same-shape-self p h =
    both-pair _ _ h (both-pair _ _ (eqb_refl (form_of p)) (both-pair _ _ (eqb_refl (columns_of p)) (eqb_refl (rows_of p))))

pick_yes : (x : Bool) (a b : ℕ) → T x → pick x a b ≡ a
pick_yes true a b h = refl
pick_yes false a b h = absurd h

-- a scalar to itself: rank 0
pub rank-self : (s : ℕ) → s < 7 → rank_of s s ≡ 0
unfolding rank_of both
rank-self s h = rw (lt-ltb s 7 h, eq-eqb s s refl)

-- a type whose parts are a shape and a component converts to one that is made of a shape and a component by these
pub made-rank : (t : Ty) (p : Shape) (s : ℕ) → T (ltb (form_of p) 3) → s < 7
    → conversion_rank t (made p s) ≡ pick (same_shape (shape_of t) p) (rank_of (component_of t) s) none
unfolding conversion_rank
made-rank t p s h l = go (same_ty t (made p s)) refl
  where
    parts : by_component t (made p s) ≡ pick (same_shape (shape_of t) p) (rank_of (component_of t) s) none
    parts = λ i. pick (same_shape (shape_of t) (shape-made p s i)) (rank_of (component_of t) (component-made p s h i)) none

    itself : t ≡ made p s → pick (same_shape (shape_of t) p) (rank_of (component_of t) s) none ≡ 0
    itself e =
        (λ i. pick (same_shape ((ap shape_of e ∙ shape-made p s) i) p) (rank_of ((ap component_of e ∙ component-made p s h) i) s) none)
        ∙ pick_yes (same_shape p p) (rank_of s s) none (same-shape-self p h)
        ∙ rank-self s l

    go : (x : Bool) → same_ty t (made p s) ≡ x → pick x 0 (by_component t (made p s)) ≡ pick (same_shape (shape_of t) p) (rank_of (component_of t) s) none
    go true e = sym (itself (same-ty t (made p s) (rw e tt)))
    go false e = parts
