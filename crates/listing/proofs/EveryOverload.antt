-- A row's listing has every overload once and no other (document 02, K7: "each overload of the row once"): what stands at a place below the count is an overload of the row,
-- and each of them stands at one place alone. Assumes nothing.
use Prim.Native.Nat.{ℕ, zero, suc, ◌<◌}
use native.Mathlib.Omega.{arith}
use native.Mathlib.Nat.{le_of_suc-le-suc, not-suc-le-zero}
use mathlib.Core.Path.{◌≡◌, refl, sym, ◌∙◌, ap, subst}
use mathlib.Core.Bool.{not}
use mathlib.Core.Logic.{⊎_elim}
use mathlib.Core.List.Memᴰ
use mathlib.Core.List.{List, [], ◌∷◌, Memᴰ}
use lib.Dec.{T, T_not}
use lib.ListN.{length, get_or}
use Rattle.conv.proofs.Finite.{both_left, both_right}
use Rattle.overload.specs.Overload.{Overload, same_overload}
use Rattle.overload.specs.Rows.{row_at, overloads_of, of_row}
use Rattle.overload.proofs.Preference.{or_left, or_right}
use Rattle.overload.proofs.Judge.{self-overload}
use Rattle.overload.proofs.ListedOnce.{stands, once, listed-once}
use Rattle.listing.specs.Listing.{no_overload, overload_at}

-- of any list

at-member : (os : List Overload) (j : ℕ) → j < length os → Memᴰ (get_or os j no_overload) os
at-member [] j h = absurd (not-suc-le-zero h)
at-member (o ∷ os) zero h = Memᴰ.head refl
at-member (o ∷ os) (suc j) h = Memᴰ.tail (at-member os j (le_of_suc-le-suc h))

place_of : (os : List Overload) (o : Overload) → Memᴰ o os → (j : ℕ) × (j < length os) × (get_or os j no_overload ≡ o)
place_of [] o m = absurd (Memᴰ.not-nil m)
place_of (p ∷ ps) o m =
    ⊎_elim (λ e. (0, omega arith, sym e)) (λ n. let r = place_of ps o n in let l = r.1 in (suc r.0, omega arith, r.2)) (Memᴰ.cases_cons m)

stands_at_lem : (o : Overload) (os : List Overload) (j : ℕ) → j < length os → o ≡ get_or os j no_overload → T (stands o os)
unfolding stands
stands_at_lem o [] j h e = absurd (not-suc-le-zero h)
stands_at_lem o (p ∷ ps) zero h e = or_left _ _ (subst (λ (q : Overload). T (same_overload o q)) e (self-overload o))
stands_at_lem o (p ∷ ps) (suc j) h e = or_right (same_overload o p) _ (stands_at_lem o ps j (le_of_suc-le-suc h) e)

one_place : (os : List Overload) → T (once os) → (i j : ℕ) → i < length os → j < length os → get_or os i no_overload ≡ get_or os j no_overload → i ≡ j
unfolding once
one_place [] t i j h k e = absurd (not-suc-le-zero h)
one_place (o ∷ os) t zero zero h k e = refl
one_place (o ∷ os) t zero (suc j) h k e = absurd (T_not (stands o os) (both_left _ _ t) (stands_at_lem o os j (le_of_suc-le-suc k) e))
one_place (o ∷ os) t (suc i) zero h k e = absurd (T_not (stands o os) (both_left _ _ t) (stands_at_lem o os i (le_of_suc-le-suc h) (sym e)))
one_place (o ∷ os) t (suc i) (suc j) h k e = ap suc (one_place os (both_right (not (stands o os)) _ t) i j (le_of_suc-le-suc h) (le_of_suc-le-suc k) e)

-- THE LISTING OF A ROW

-- o stands at place j
abbrev pub StandsAt : ℕ → Overload → ℕ → Type 0
StandsAt row o j = (j < length (overloads_of (row_at row))) × (overload_at (row_at row) j ≡ o)

-- no other
pub no_other : (row : ℕ) (o : Overload) (j : ℕ) → StandsAt row o j → of_row (row_at row) o
no_other row o j s = subst (of_row (row_at row)) s.1 (at-member (overloads_of (row_at row)) j s.0)

-- every one, and once
pub every-overload : (row : ℕ) (o : Overload) → of_row (row_at row) o → (j : ℕ) × StandsAt row o j × ((i : ℕ) → StandsAt row o i → i ≡ j)
every-overload row o m =
    let os = overloads_of (row_at row) in
    let r = place_of os o m in
    (r.0, (r.1, r.2), λ i s. one_place os (listed-once row) i r.0 s.0 r.1 (s.1 ∙ sym r.2))
