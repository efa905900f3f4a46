-- What a name's profile decides: a name of profile 0 has its rule in either profile, and bytes that have another rule in profile 1 than in 0 are a name of profile 1.
-- Assumes nothing.
use Prim.Native.Nat.{ℕ, zero, suc, ◌<◌, zero-le, suc-le-suc}
use native.Mathlib.Nat.{not-suc-le-zero, le_of_suc-le-suc}
use native.Mathlib.Omega.{arith}
use mathlib.Core.Path.{◌≡◌, refl, sym, ◌∙◌}
use mathlib.Core.Logic.{◌⊎◌, inl, inr}
use mathlib.Core.Bool.{Bool, true, false}
use mathlib.Core.List.{List, [], ◌∷◌}
use lib.Dec.{ltb, ltb→lt}
use lib.ListN.{length, get_or}
use Rattle.conv.specs.Rank.{both}
use Rattle.conv.proofs.Finite.{below}
use Rattle.names.specs.Names.{Name, names, no_name, name_at, count, same_bytes, profiles, rule_of}
use Rattle.names.specs.Names.Named.{rule, unknown}
use Rattle.names.proofs.Bytes.{same_bytes_lem, not_same}
use Rattle.names.proofs.Lines.{at}
use Rattle.names.proofs.Found.{found_here, found-later, missing}

-- every name is of a profile that there is
pub columns : (k : ℕ) → k < count → (at k).profile < profiles
unfolding names both
columns k h = ltb→lt _ _ (below count (λ k. ltb (at k).profile profiles) tt k h)

-- a name of profile 0, in either
pub of-both : (profile : ℕ) → profile < profiles → (k : ℕ) → k < count → (at k).profile ≡ 0 → rule_of profile (name_at k) ≡ rule (at k).rule (at k).running
of-both profile p k h z = found_here profile (name_at k) k h refl p (omega (arith, z))

-- BYTES ARE A NAME OR NONE

Stands : List Name → List ℕ → Type 0
Stands rs s = ((k : ℕ) × (k < length rs) × ((get_or rs k no_name).text ≡ s)) ⊎ ((k : ℕ) → k < length rs → (get_or rs k no_name).text ≡ s → ⊥)

stands-in : (rs : List Name) (s : List ℕ) → Stands rs s
unfolding Stands
stands-in [] s = inr (λ k h e. not-suc-le-zero h)
stands-in (r ∷ rs) s = go (same_bytes r.text s) refl (stands-in rs s)
  where
    go : (b : Bool) → same_bytes r.text s ≡ b → Stands rs s → Stands (r ∷ rs) s
    go true e later = inl (zero, suc-le-suc zero-le, same_bytes_lem r.text s e)
    go false e (inl (k, h, q)) = inl (suc k, suc-le-suc h, q)
    go false e (inr n) = inr none
      where
        none : (k : ℕ) → k < length (r ∷ rs) → (get_or (r ∷ rs) k no_name).text ≡ s → ⊥
        none zero h q = not_same r.text s e q
        none (suc k) h q = n k (le_of_suc-le-suc h) q

pub data Placed (s : List ℕ) : Type 0 where
  -- a name of profile 0; one of profile 1; none
  older : (k : ℕ) → k < count → name_at k ≡ s → (at k).profile ≡ 0 → Placed s
  newer : (k : ℕ) → k < count → name_at k ≡ s → (at k).profile ≡ 1 → Placed s
  nowhere : ((k : ℕ) → k < count → name_at k ≡ s → ⊥) → Placed s

pub placed : (s : List ℕ) → Placed s
unfolding Stands name_at
placed s = go (stands-in names s)
  where
    by-column : (k : ℕ) → k < count → name_at k ≡ s → (c : ℕ) → (at k).profile ≡ c → Placed s
    by-column k h e zero z = older k h e z
    by-column k h e (suc zero) z = newer k h e z
    by-column k h e (suc (suc c)) z = let l = columns k h in absurd (omega (arith, z))

    go : Stands names s → Placed s
    go (inl (k, h, e)) = by-column k h e (at k).profile refl
    go (inr n) = nowhere n

-- any other bytes than a name of profile 0, in profile 0
pub not-of-0 : (s : List ℕ) → ((k : ℕ) → k < count → (at k).profile ≡ 0 → name_at k ≡ s → ⊥) → rule_of 0 s ≡ unknown
not-of-0 s n = go (placed s)
  where
    go : Placed s → rule_of 0 s ≡ unknown
    go (older k h e z) = absurd (n k h z e)
    go (newer k h e z) = found-later 0 s k h e (omega (arith, z))
    go (nowhere m) = missing 0 s m

-- THE SAME IN BOTH, or a name of profile 1, which has no rule in 0

abbrev pub SameOrNewer : List ℕ → Type 0
SameOrNewer s = (rule_of 1 s ≡ rule_of 0 s) ⊎ ((rule_of 0 s ≡ unknown) × ((k : ℕ) × (k < count) × (name_at k ≡ s) × ((at k).profile ≡ 1)))

pub same-or-newer : (s : List ℕ) → SameOrNewer s
same-or-newer s = go (placed s)
  where
    go : Placed s → SameOrNewer s
    go (older k h e z) = inl (found_here 1 s k h e (omega arith) (omega (arith, z)) ∙ sym (found_here 0 s k h e (omega arith) (omega (arith, z))))
    go (newer k h e z) = inr (found-later 0 s k h e (omega (arith, z)), (k, h, e, z))
    go (nowhere m) = inl (missing 1 s m ∙ sym (missing 0 s m))
