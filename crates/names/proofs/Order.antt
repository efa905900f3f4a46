-- The names are sorted strictly by their bytes, which antt computes at every place but the last; so an earlier name stands before every later one,
-- and no name stands twice. Assumes nothing.
use Prim.Native.Nat.{ℕ, zero, suc, ◌+◌, ◌-◌, ◌<◌}
use native.Mathlib.Nat.{le_of_suc-le-suc, not-suc-le-zero, eq-or-lt_of_le}
use native.Mathlib.Omega.{arith}
use native.Mathlib.Numerals.{add-one}
use mathlib.Core.Path.{◌≡◌, refl}
use mathlib.Core.Bool.{Bool, true, false, cond}
use mathlib.Core.Logic.{◌⊎◌, inl, inr, ⊎_elim}
use mathlib.Core.List.{List, [], ◌∷◌}
use lib.Dec.{T, eqb, ltb, ltb→lt}
use borrow.Author.Tests.{eqb-true, eq-eqb, ne_eqb, lt-ltb, ltb-true, ltb-false}
use Rattle.conv.specs.Rank.{both}
use Rattle.conv.proofs.Finite.{below}
use Rattle.text.specs.Text.{ascii}
use Rattle.names.specs.Names.{names, name_at, before, count, Sorted}

-- "The 94 builtin names stand sorted by their bytes"
pub sorted : Sorted
unfolding ascii names name_at before both
sorted k h = below (count - 1) (λ k. before (name_at k) (name_at (k + 1))) tt k (omega arith)

-- THE ORDER of names, by the first byte of each

pub before-less : (x y : ℕ) (xs ys : List ℕ) → x < y → T (before (x ∷ xs) (y ∷ ys))
unfolding before
before-less x y xs ys h =
    let n : x ≡ y → ⊥ = λ e. omega arith in
    rw (ne_eqb x y n, lt-ltb x y h) tt

pub before-rest : (x y : ℕ) (xs ys : List ℕ) → x ≡ y → T (before xs ys) → T (before (x ∷ xs) (y ∷ ys))
unfolding before
before-rest x y xs ys e h = rw (eq-eqb x y e) h

pub before-parts : (x y : ℕ) (xs ys : List ℕ) → T (before (x ∷ xs) (y ∷ ys)) → (x < y) ⊎ ((x ≡ y) × T (before xs ys))
unfolding before
before-parts x y xs ys h = go (eqb x y) refl h
  where
    go : (b : Bool) → eqb x y ≡ b → T (cond b (before xs ys) (ltb x y)) → (x < y) ⊎ ((x ≡ y) × T (before xs ys))
    go true e t = inr (eqb-true x y e, t)
    go false e t = inl (ltb→lt x y t)

-- no name stands before itself, and the order carries on

pub before_self : (s : List ℕ) → T (before s s) → ⊥
unfolding before
before_self [] t = t
before_self (x ∷ xs) t = before_self xs (rw (eq-eqb x x refl) at t)

pub before-trans : (s t u : List ℕ) → T (before s t) → T (before t u) → T (before s u)
unfolding before
before-trans s t [] p q = q
before-trans s [] (z ∷ zs) p q = absurd p
before-trans [] (y ∷ ys) (z ∷ zs) p q = tt
before-trans (x ∷ xs) (y ∷ ys) (z ∷ zs) p q =
    ⊎_elim
    (λ l. ⊎_elim (λ m. before-less x z xs zs (omega arith)) (λ m. before-less x z xs zs (omega (arith, m.0))) (before-parts y z ys zs q))
    (λ l.
    ⊎_elim
    (λ m. before-less x z xs zs (omega (arith, l.0)))
    (λ m. before-rest x z xs zs (omega (arith, l.0, m.0)) (before-trans xs ys zs l.1 m.1))
    (before-parts y z ys zs q))
    (before-parts x y xs ys p)

-- an earlier name stands before every later one
pub rises : (j k : ℕ) → j < k → k < count → T (before (name_at j) (name_at k))
rises j zero h l = absurd (not-suc-le-zero h)
rises j (suc k) h l =
    let next : T (before (name_at k) (name_at (suc k))) = rw add-one at (sorted k (rw add-one l)) in
    ⊎_elim
    (λ e. rw e next)
    (λ m. before-trans (name_at j) (name_at k) (name_at (suc k)) (rises j k m (omega arith)) next)
    (eq-or-lt_of_le (le_of_suc-le-suc h))

-- NO NAME STANDS TWICE
pub once : (j k : ℕ) → j < count → k < count → name_at j ≡ name_at k → j ≡ k
once j k hj hk e = go (ltb j k) refl (ltb k j) refl
  where
    go : (a : Bool) → ltb j k ≡ a → (b : Bool) → ltb k j ≡ b → j ≡ k
    go true p b q = absurd (before_self (name_at k) (rw e at (rises j k (ltb-true j k p) hk)))
    go false p true q = absurd (before_self (name_at k) (rw e at (rises k j (ltb-true k j q) hj)))
    go false p false q = omega (arith, ltb-false j k p, ltb-false k j q)
