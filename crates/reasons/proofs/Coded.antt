-- What is told by operands' numbers is told of the operands. Assumes nothing.
use Prim.Native.Nat.{ℕ, suc, ◌/◌, ◌%◌, ◌<◌}
use mathlib.Core.Path.{◌≡◌, refl, ap₂}
use mathlib.Core.Bool.{true, cond}
use mathlib.Core.List.{List, [], ◌∷◌, map}
use native.Mathlib.Omega.{arith}
use lib.Dec.{T, ltb}
use Rattle.conv.specs.Types.{Ty, formed}
use Rattle.conv.specs.Rank.{none, both, form_of}
use Rattle.conv.proofs.Finite.{below}
use Rattle.overload.specs.inner.Code.{shape_of_no, operand}
use Rattle.overload.proofs.Operands.{and_left, and_right, all_formed, codes_of, Made, AllMade, rank-alike}
use Rattle.weigh.specs.Weigh.{first_miss, Shaped}
use Rattle.phrase.specs.Phrase.{ranks_of}

pub miss-coded : (ps ts : List Ty) → AllMade ps → all_formed ts ≡ true → first_miss ps ts ≡ first_miss ps (map operand (codes_of ts))
unfolding first_miss all_formed AllMade
miss-coded [] ts m f = refl
miss-coded (p ∷ ps) [] m f = refl
miss-coded (p ∷ ps) (t ∷ ts) m f =
    ap₂ (λ (r k : ℕ). cond (ltb r none) (suc k) 0) (rank-alike t p (and_left _ _ f) m.0) (miss-coded ps ts m.1 (and_right (formed t) _ f))

pub ranks-coded : (ps ts : List Ty) → AllMade ps → all_formed ts ≡ true → ranks_of ps ts ≡ ranks_of ps (map operand (codes_of ts))
unfolding ranks_of all_formed AllMade
ranks-coded [] ts m f = refl
ranks-coded (p ∷ ps) [] m f = refl
ranks-coded (p ∷ ps) (t ∷ ts) m f =
    ap₂ (λ (r : ℕ) (rs : List ℕ). r ∷ rs) (rank-alike t p (and_left _ _ f) m.0) (ranks-coded ps ts m.1 (and_right (formed t) _ f))

-- the type of an operand's number below 91 is made of a shape and a component
shaped-made : (x : ℕ) → x < 91 → Made (operand x)
unfolding shape_of_no both
shaped-made x h = (shape_of_no (x / 7), x % 7, form-of (x / 7) (omega arith), omega arith, refl)
  where
    form-of : (k : ℕ) → k < 13 → T (ltb (form_of (shape_of_no k)) 3)
    form-of k l = below 13 (λ k. ltb (form_of (shape_of_no k)) 3) tt k l

pub all_made : (ps : List ℕ) → Shaped ps → AllMade (map operand ps)
unfolding AllMade
all_made [] s = tt
all_made (p ∷ ps) s = (shaped-made p (s 0 (omega arith)), all_made ps (λ k h. s (suc k) (omega arith)))
