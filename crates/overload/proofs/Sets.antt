-- Sets of scalars as numbers, a bit for each: what stands in two sets stands in their common part. Assumes nothing.
use Rattle.std.proofs.Common.{◌≡◌, ℕ, ◌*◌, ◌/◌, ◌%◌, ◌^◌, ◌<◌, ◌≤◌, Bool, true, false, not, T, eqb, ltb, ◌≢◌, sym, refl, ap, ◌∙◌, ⊎_elim, arith, eqb→eq, ltb→lt}
use lib.Count.{count_trailing_zeros, trailing_le}
use lib.Bits.{bit_and, and_shr, and_mod, and_le_l}
use Rattle.conv.specs.Types.{is_abstract}
use Rattle.conv.specs.Rank.{both, none}
use Rattle.overload.specs.Overload.{or}
use Rattle.overload.proofs.Preference.{or_cases}
use Rattle.conv.proofs.Finite.{same, same-eq, below, below₂}
use Rattle.overload.specs.inner.Code.{bit, has, place_of_scalar, first_with, preference}

bit_test : ℕ → ℕ → Bool
bit_test a b = same (eqb (bit_and a b) 1) (both (eqb a 1) (eqb b 1))

bit-tests : (a b : ℕ) → a < 2 → b < 2 → T (bit_test a b)
unfolding bit_test same both
bit-tests a b ha hb = below₂ 2 2 bit_test tt a b ha hb

bits-and : (a b : ℕ) → a < 2 → b < 2 → eqb (bit_and a b) 1 ≡ both (eqb a 1) (eqb b 1)
unfolding bit_test
bits-and a b ha hb = same-eq _ _ (bit-tests a b ha hb)

bit-and : (a b s : ℕ) → bit (bit_and a b) s ≡ both (bit a s) (bit b s)
unfolding bit
bit-and a b s =
    ap (λ (k : ℕ). eqb (k % 2) 1) (and_shr a b s)
    ∙ ap (λ (k : ℕ). eqb k 1) (and_mod (a / 2 ^ s) (b / 2 ^ s) 1)
    ∙ bits-and (a / 2 ^ s % 2) (b / 2 ^ s % 2) (omega arith) (omega arith)

pub has-and : (a b s : ℕ) → has (bit_and a b) s ≡ both (has a s) (has b s)
unfolding has
has-and a b s = bit-and a b (place_of_scalar s)

-- the empty set, and that of all scalars
pub has-none : (s : ℕ) → s < 7 → has 0 s ≡ false
unfolding has bit both same
has-none s h = is-no (has 0 s) (below 7 (λ s. same (has 0 s) false) tt s h)
  where
    is-no : (b : Bool) → T (same b false) → b ≡ false
    is-no b t = same-eq b false t

pub has_all : (s : ℕ) → s < 7 → has 127 s ≡ true
unfolding has bit both same
has_all s h = same-eq (has 127 s) true (below 7 (λ s. same (has 127 s) true) tt s h)

pub both_yes : (a : Bool) → a ≡ both a true
unfolding both
both_yes true = refl
both_yes false = refl

-- and that of the concrete ones
pub has-concrete : (s : ℕ) → s < 7 → has 109 s ≡ not (is_abstract s)
unfolding has bit both same
has-concrete s h = same-eq (has 109 s) (not (is_abstract s)) (below 7 (λ s. same (has 109 s) (not (is_abstract s))) tt s h)

-- THE FIRST of a set, in the order of preference: the lowest bit
first_test : ℕ → Bool
first_test w = or (eqb w 0) (eqb (1747144 / 2 ^ (3 * count_trailing_zeros 64 w) % 8) (first_with preference (has w)))

first-tests : (w : ℕ) → w < 128 → T (first_test w)
unfolding first_test or both has bit first_with count_trailing_zeros
first-tests w h = below 128 first_test tt w h

pub lowest-first : (w : ℕ) → w < 128 → w ≢ 0 → 1747144 / 2 ^ (3 * count_trailing_zeros 64 w) % 8 ≡ first_with preference (has w)
unfolding first_test
lowest-first w h n = ⊎_elim (λ e. absurd (n (eqb→eq w 0 e))) (λ e. eqb→eq _ _ e) (or_cases (eqb w 0) _ (first-tests w h))

pub none_first : (w : ℕ) → w ≡ 0 → none ≡ first_with preference (has w)
unfolding first_with has bit
none_first w e = sym (ap (λ (k : ℕ). first_with preference (has k)) e)

-- a number of 64 bits has at most 64 zeros below its lowest bit; a set of scalars that is not empty at most 6
pub lowest-small : (w : ℕ) → count_trailing_zeros 64 w ≤ 64
lowest-small w = trailing_le 64 w

low_test : ℕ → Bool
low_test w = or (eqb w 0) (ltb (count_trailing_zeros 64 w) 7)

low-tests : (w : ℕ) → w < 128 → T (low_test w)
unfolding low_test or both count_trailing_zeros
low-tests w h = below 128 low_test tt w h

pub lowest-seven : (w : ℕ) → w < 128 → w ≢ 0 → count_trailing_zeros 64 w < 7
unfolding low_test
lowest-seven w h n = ⊎_elim (λ e. absurd (n (eqb→eq w 0 e))) (λ e. ltb→lt (count_trailing_zeros 64 w) 7 e) (or_cases (eqb w 0) _ (low-tests w h))

-- what two sets have in common is a set of scalars
pub common-small : (a b : ℕ) → a < 128 → bit_and a b < 128
common-small a b h = let l = and_le_l a b in omega (arith, l)
