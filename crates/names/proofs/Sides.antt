-- How a line stands to a name whose first i letters are its own: by the letter there, where the name ends by the line's next one. Assumes nothing.
use Prim.Native.Nat.{ℕ, ◌≤◌, ◌<◌}
use native.Mathlib.Omega.{arith}
use mathlib.Core.Path.{◌≡◌, sym, ◌∙◌}
use mathlib.Core.Logic.{◌≢◌}
use mathlib.Core.List.{List}
use lib.ListN.{length, get_or, get_or-eq_default}
use Rattle.std.proofs.Common.{nat_cmp}
use Rattle.std.specs.Ordering.{MatchOrdering}
use Rattle.std.proofs.lemmas.Cmp.{ranked}
use Rattle.std.specs.declared.cmp.Ordering.{Ordering}
use Rattle.std.specs.declared.cmp.Ordering.TheVariants.{Less, Equal, Greater}
use Rattle.names.specs.Names.{name_at, count}
use Rattle.names.specs.inner.Table.{name_width, blank, Ordered}
use Rattle.names.proofs.Letters.{letters-less, letters-same, not-ended, ended_same}

module _ (k : ℕ) (h : k < count) (s : List ℕ) (i : ℕ) (same : (j : ℕ) → j < i → get_or (name_at k) j blank ≡ get_or s j blank) where
  -- A LETTER THAT DIFFERS decides
  pub by-letter : i < name_width → (x y : ℕ) → x ≡ get_or (name_at k) i blank → y ≡ get_or s i blank → x ≢ y → (o : Ordering) → o ≡ nat_cmp x y → Ordered o (name_at k) s
  unfolding Ordered
  by-letter m x y p q n o e = go o (ranked x y o e)
    where
      go : (r : Ordering) → MatchOrdering r (x < y) (x ≡ y) (y < x) → Ordered r (name_at k) s
      go Less d = letters-less (name_at k) s i m same (omega (arith, p, q, d))
      go Equal d = absurd (n d)
      go Greater d = letters-less s (name_at k) i m (λ j b. sym (same j b)) (omega (arith, p, q, d))

  -- where the name has ended, the line's next letter: a blank, or one above it
  pub by-next : i < name_width → length s ≤ i → (x : ℕ) → x ≡ get_or (name_at k) i blank → (o : Ordering) → o ≡ nat_cmp x blank → Ordered o (name_at k) s
  unfolding Ordered
  by-next m l x p o e = go o (ranked x blank o e)
    where
      go : (r : Ordering) → MatchOrdering r (x < blank) (x ≡ blank) (blank < x) → Ordered r (name_at k) s
      go Less d = let z = not-ended k h i (λ b. omega (arith, p)) in absurd (omega (arith, p))
      go Equal d = ended_same k h i (sym p ∙ d) s l same
      go Greater d = letters-less s (name_at k) i m (λ j b. sym (same j b)) (omega (arith, p, get_or-eq_default s blank {n = i} l))

  -- and where it is as long as a line is wide, no letter differs
  pub by-width : name_width ≤ i → Ordered Equal (name_at k) s
  unfolding Ordered
  by-width m = letters-same (name_at k) s (λ j b. same j (omega arith))
