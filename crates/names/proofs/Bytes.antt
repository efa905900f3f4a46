-- The laws of comparing names byte for byte: the test passes exactly at equal bytes. By induction on the two names. Assumes nothing.
use Prim.Native.Nat.{ℕ}
use mathlib.Core.Path.{◌≡◌, refl, sym, ◌∙◌}
use native.Mathlib.Omega.{arith}
use mathlib.Core.Bool.{Bool, true, false}
use mathlib.Core.List.{List, [], ◌∷◌}
use lib.Dec.{eqb}
use borrow.Author.Tests.{eqb-true, eq-eqb}
use Rattle.conv.specs.Rank.{both}
use Rattle.names.specs.Names.{same_bytes}

pub same_self : (s : List ℕ) → same_bytes s s ≡ true
unfolding same_bytes both
same_self [] = refl
same_self (x ∷ xs) = rw (eq-eqb x x refl, same_self xs)

both-parts : (a b : Bool) → both a b ≡ true → (a ≡ true) × (b ≡ true)
unfolding both
both-parts true b e = (refl, e)
both-parts false b e = let z : true ≡ false = cc in (cc, cc)

pub same_bytes_lem : (s t : List ℕ) → same_bytes s t ≡ true → s ≡ t
unfolding same_bytes
same_bytes_lem [] [] e = refl
same_bytes_lem [] (y ∷ ys) e = cc
same_bytes_lem (x ∷ xs) [] e = cc
same_bytes_lem (x ∷ xs) (y ∷ ys) e =
    let p = both-parts (eqb x y) (same_bytes xs ys) e in
    let q : x ≡ y = eqb-true x y p.0 in
    let r : xs ≡ ys = same_bytes_lem xs ys p.1 in
    cc

pub differ : (s t : List ℕ) → (s ≡ t → ⊥) → same_bytes s t ≡ false
differ s t n = go (same_bytes s t) refl
  where
    go : (b : Bool) → same_bytes s t ≡ b → same_bytes s t ≡ false
    go true e = absurd (n (same_bytes_lem s t e))
    go false e = e

pub not_same : (s t : List ℕ) → same_bytes s t ≡ false → s ≡ t → ⊥
not_same s t e p =
    let q : same_bytes t t ≡ false = rw p at e in
    let r : true ≡ false = sym (same_self t) ∙ q in
    let z : ◌≡◌ {A = ℕ} 0 1 = cc in
    omega arith
