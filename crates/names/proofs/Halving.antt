-- How often a search by halving looks at a row, at most: once for what is left, and as often as for half of it. Where each look leaves at most half, that number falls; for
-- all names it is computed. Assumes nothing.
use Prim.Native.Nat.{ℕ, zero, suc, ◌/◌, ◌≤◌, ◌<◌, zero-le, suc-le-suc}
use native.Mathlib.Nat.{not-suc-le-zero, le_of_suc-le-suc}
use native.Mathlib.Omega.{arith}
use lib.Dec.{leb→le}
use Rattle.names.specs.Names.{names, count}

-- so many looks into n rows, in so many turns
looks_in : ℕ → ℕ → ℕ
looks_in zero n = 0
looks_in (suc turns) zero = 0
looks_in (suc turns) (suc n) = suc (looks_in turns (suc n / 2))

pub looks : ℕ → ℕ
looks n = looks_in n n

more : (t u m n : ℕ) → t ≤ u → m ≤ n → looks_in t m ≤ looks_in u n
unfolding looks_in
more zero u m n ht hm = zero-le
more (suc t) u zero n ht hm = zero-le
more (suc t) zero (suc m) n ht hm = absurd (not-suc-le-zero ht)
more (suc t) (suc u) (suc m) zero ht hm = absurd (not-suc-le-zero hm)
more (suc t) (suc u) (suc m) (suc n) ht hm = suc-le-suc (more t u (suc m / 2) (suc n / 2) (le_of_suc-le-suc ht) (omega arith))

-- a look that leaves at most half
pub looks-fall : (m n : ℕ) → 0 < n → m ≤ n / 2 → looks m < looks n
unfolding looks looks_in
looks-fall m zero h l = absurd (not-suc-le-zero h)
looks-fall m (suc n) h l = suc-le-suc (more m n m (suc n / 2) (omega arith) l)

-- AT MOST EIGHT LOOKS into all names
pub eight : looks count ≤ 8
unfolding names looks looks_in
eight = leb→le _ _ tt
