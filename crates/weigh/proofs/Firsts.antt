-- The first of a list that passes a test; the first operand that does not convert, and whether all convert. Assumes nothing.
use Prim.Native.Nat.{ℕ, zero, suc, ◌≤◌, ◌<◌}
use mathlib.Core.Path.{◌≡◌, refl, sym, ◌∙◌, ap}
use mathlib.Core.Bool.{Bool, true, false, cond}
use mathlib.Core.List.{List, [], ◌∷◌}
use native.Mathlib.Nat.{le_of_suc-le-suc, not-suc-le-zero}
use native.Mathlib.Omega.{arith}
use lib.Dec.{ltb, leb-suc-suc}
use lib.ListN.{length, get_or}
use borrow.Author.Tests.{lt-ltb}
use Rattle.conv.specs.Types.{Ty, abstract_ty}
use Rattle.conv.specs.Rank.{both, converts}
use Rattle.overload.specs.Overload.{or, fits}
use Rattle.overload.specs.Marks.{any_abstract}
use Rattle.weigh.specs.Weigh.{first_by, first_miss}

module _ {A : Type 0} (g : A → Bool) (d : A) where
  pub first-at : (xs : List A) (i : ℕ) → i < length xs → ((k : ℕ) → k < i → g (get_or xs k d) ≡ false) → g (get_or xs i d) ≡ true → first_by g xs ≡ i
  unfolding first_by
  first-at [] i l h e = absurd (not-suc-le-zero l)
  first-at (x ∷ xs) zero l h e = ap (λ (b : Bool). cond b 0 (suc (first_by g xs))) e
  first-at (x ∷ xs) (suc i) l h e =
      ap (λ (b : Bool). cond b 0 (suc (first_by g xs))) (h 0 (omega arith)) ∙ ap suc (first-at xs i (le_of_suc-le-suc l) (λ k m. h (suc k) (omega arith)) e)

  pub first-none : (xs : List A) → ((k : ℕ) → k < length xs → g (get_or xs k d) ≡ false) → first_by g xs ≡ length xs
  unfolding first_by
  first-none [] h = refl
  first-none (x ∷ xs) h = ap (λ (b : Bool). cond b 0 (suc (first_by g xs))) (h 0 (omega arith)) ∙ ap suc (first-none xs (λ k m. h (suc k) (omega arith)))

  -- what the first is: it passes, and none before it does
  pub first-is : (xs : List A) → first_by g xs < length xs → g (get_or xs (first_by g xs) d) ≡ true
  unfolding first_by
  first-is [] l = absurd (not-suc-le-zero l)
  first-is (x ∷ xs) l = go (g x) refl (first-is xs) l
    where
      go : (b : Bool) → g x ≡ b → (first_by g xs < length xs → g (get_or xs (first_by g xs) d) ≡ true) → cond b 0 (suc (first_by g xs)) < suc (length xs) → g (get_or (x ∷ xs) (cond b 0 (suc (first_by g xs))) d) ≡ true
      go true e ih m = e
      go false e ih m = ih (le_of_suc-le-suc m)

  pub first-before : (xs : List A) (k : ℕ) → k < first_by g xs → k < length xs → g (get_or xs k d) ≡ false
  unfolding first_by
  first-before [] k h l = absurd (not-suc-le-zero l)
  first-before (x ∷ xs) k h l = go (g x) refl (first-before xs) k h l
    where
      go : (b : Bool) → g x ≡ b → ((k : ℕ) → k < first_by g xs → k < length xs → g (get_or xs k d) ≡ false) → (k : ℕ) → k < cond b 0 (suc (first_by g xs)) → k < suc (length xs) → g (get_or (x ∷ xs) k d) ≡ false
      go true e ih k m n = absurd (not-suc-le-zero m)
      go false e ih zero m n = e
      go false e ih (suc k) m n = ih k (le_of_suc-le-suc m) (le_of_suc-le-suc n)

-- "all operands converting to its parameters", or one does not
pub missed : (ps ts : List Ty) → length ts ≡ length ps → first_miss ps ts < length ts → fits ps ts ≡ false
unfolding first_miss fits both
missed [] ts e l = absurd (omega arith)
missed (p ∷ ps) [] e l = refl
missed (p ∷ ps) (t ∷ ts) e l = go (converts t p) (missed ps ts (omega arith)) l
  where
    go : (b : Bool) → (first_miss ps ts < length ts → fits ps ts ≡ false) → cond b (suc (first_miss ps ts)) 0 < suc (length ts) → both b (fits ps ts) ≡ false
    go true ih m = ih (le_of_suc-le-suc m)
    go false ih m = refl

pub unmissed : (ps ts : List Ty) → length ts ≡ length ps → length ts ≤ first_miss ps ts → fits ps ts ≡ true
unfolding first_miss fits both
unmissed [] [] e l = refl
unmissed [] (t ∷ ts) e l = absurd (omega arith)
unmissed (p ∷ ps) [] e l = absurd (omega arith)
unmissed (p ∷ ps) (t ∷ ts) e l = go (converts t p) (unmissed ps ts (omega arith)) l
  where
    go : (b : Bool) → (length ts ≤ first_miss ps ts → fits ps ts ≡ true) → suc (length ts) ≤ cond b (suc (first_miss ps ts)) 0 → both b (fits ps ts) ≡ true
    go true ih m = ih (le_of_suc-le-suc m)
    go false ih m = absurd (not-suc-le-zero m)

-- an abstract parameter
pub some-abstract : (ps : List Ty) → any_abstract ps ≡ ltb (first_by abstract_ty ps) (length ps)
unfolding any_abstract first_by or
some-abstract [] = refl
some-abstract (p ∷ ps) = go (abstract_ty p) (some-abstract ps)
  where
    go : (b : Bool) → any_abstract ps ≡ ltb (first_by abstract_ty ps) (length ps) → or b (any_abstract ps) ≡ ltb (cond b 0 (suc (first_by abstract_ty ps))) (suc (length ps))
    go true ih = sym (lt-ltb 0 (suc (length ps)) (omega arith))
    go false ih = ih ∙ sym (leb-suc-suc (suc (first_by abstract_ty ps)) (length ps))
