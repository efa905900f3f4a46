-- The lines of the tables: what a number has as its entries, by tests that antt computes. Assumes nothing.
use Prim.Native.Nat.{ℕ, ◌+◌, ◌%◌, ◌<◌, ◌≤◌}
use mathlib.Core.Path.{◌≡◌, refl, sym, ◌∙◌, ap, subst}
use mathlib.Core.List.{List, []}
use lib.Dec.{T, eqb, eqb→eq}
use lib.ListN.{length, get_or, get_or-eq_default}
use native.Mathlib.Nat.{not-suc-le-zero}
use mathlib.Core.Bool.{Bool}
use Rattle.conv.specs.Rank.{both}
use Rattle.conv.proofs.Finite.{both_left, both_right, all, below}
use Rattle.overload.specs.Rows.{Size}
use Rattle.overload.specs.inner.Code.{entry, sets, set_of, size_lists, sizes_of}
use Rattle.listing.specs.inner.Places.{size_in, size_by, SetLine, SizesLine}

pub set_line : (k : ℕ) {w l : ℕ} → w % 8 ≡ length (set_of k) → T (all (length (set_of k)) (λ i. eqb (entry 3 w (i + 1)) (get_or (set_of k) i 0))) → l ≡ k → SetLine l w
set_line k {w} c t e =
    subst (λ (l : ℕ). SetLine l w) (sym e)
    (record { count = c; at = λ i h. eqb→eq _ _ (below (length (set_of k)) (λ i. eqb (entry 3 w (i + 1)) (get_or (set_of k) i 0)) t i h) })

-- past the last set
pub no-set-line : {w l : ℕ} → w % 8 ≡ 0 → length sets ≤ l → SetLine l w
no-set-line {w} {l} c h =
    let e = get_or-eq_default sets [] h in
    record { count = subst (λ (us : List ℕ). w % 8 ≡ length us) (sym e) c; at = λ i m. absurd (not-suc-le-zero (subst (λ (us : List ℕ). i < length us) e m)) }

pub sizes-line : (k : ℕ) {w l : ℕ} → w % 256 ≡ length (sizes_of k) → T (all (length (sizes_of k)) (λ i. eqb (size_by w i) (size_in (sizes_of k) i))) → l ≡ k → SizesLine l w
sizes-line k {w} c t e =
    subst (λ (l : ℕ). SizesLine l w) (sym e)
    (record { count = c; at = λ i h. eqb→eq _ _ (below (length (sizes_of k)) (λ i. eqb (size_by w i) (size_in (sizes_of k) i)) t i h) })

-- past the last list
pub no-sizes-line : {w l : ℕ} → w % 256 ≡ 0 → length size_lists ≤ l → SizesLine l w
no-sizes-line {w} {l} c h =
    let e = get_or-eq_default size_lists [] h in
    record { count = subst (λ (zs : List Size). w % 256 ≡ length zs) (sym e) c; at = λ i m. absurd (not-suc-le-zero (subst (λ (zs : List Size). i < length zs) e m)) }

-- all lines of a table at once, by one test that antt computes

unfoldable pub set_test : ℕ → ℕ → Bool
set_test k w = both (eqb (w % 8) (length (set_of k))) (all (length (set_of k)) (λ i. eqb (entry 3 w (i + 1)) (get_or (set_of k) i 0)))

pub set-lines : (n : ℕ) (g : ℕ → ℕ) → T (all n (λ k. set_test k (g k))) → (k : ℕ) → k < n → SetLine k (g k)
unfolding set_test
set-lines n g t k h =
    let a = below n (λ k. set_test k (g k)) t k h in
    set_line k (eqb→eq _ _ (both_left _ _ a)) (both_right (eqb (g k % 8) (length (set_of k))) _ a) refl

unfoldable pub sizes_test : ℕ → ℕ → Bool
sizes_test k w = both (eqb (w % 256) (length (sizes_of k))) (all (length (sizes_of k)) (λ i. eqb (size_by w i) (size_in (sizes_of k) i)))

pub sizes-lines : (n : ℕ) (g : ℕ → ℕ) → T (all n (λ k. sizes_test k (g k))) → (k : ℕ) → k < n → SizesLine k (g k)
unfolding sizes_test
sizes-lines n g t k h =
    let a = below n (λ k. sizes_test k (g k)) t k h in
    sizes-line k (eqb→eq _ _ (both_left _ _ a)) (both_right (eqb (g k % 256) (length (sizes_of k))) _ a) refl

-- THE COUNTS OF A FAMILY, by the lines of its sets and of its list of sizes

pub set-count : {us : List ℕ} {k l : ℕ} → set_of k ≡ us → SetLine k l → l % 8 ≡ length us
set-count e l = l.count ∙ ap (λ (us : List ℕ). length us) e

pub sizes-count : {zs : List Size} {k l : ℕ} → sizes_of k ≡ zs → SizesLine k l → l % 256 ≡ length zs
sizes-count e l = l.count ∙ ap (λ (zs : List Size). length zs) e
