-- The forms of the first and last operands give the place in a row of the families that may fit: computed over every row, family and size. Assumes nothing.
use Rattle.std.proofs.Common.{◌≡◌, ℕ, zero, suc, ◌+◌, ◌<◌, ◌≤◌, Bool, true, false, not, T, eqb, ltb, leb, ◌≢◌, ◌⊎◌, List, [], ◌∷◌, length, get_or, refl, subst, inl, inr, ⊎_elim, le_of_suc-le-suc, not-suc-le-zero, arith, eqb→eq, ltb→lt, leb→le, T_not, eq-eqb}
use mathlib.Core.List.{Memᴰ}
use Rattle.conv.specs.Rank.{pick, both}
use Rattle.conv.proofs.Finite.{both_left, both_right}
use Rattle.overload.specs.Overload.{or}
use Rattle.overload.specs.Rows.{Size, Family, Row, form_at, rows, no_row, row_at}
use Rattle.overload.specs.inner.Code as code
use Rattle.overload.specs.inner.Code.{no_family, forms_at, has_forms, place_of, shared, stop_of, no_place}
use Rattle.overload.proofs.Preference.{or_cases}
use Rattle.overload.proofs.Families.{every, every-at, every_in}
use Rattle.overload.proofs.Apart.{family_at}

way_at : ℕ → ℕ → ℕ → Bool
way_at place stop k = both (not (eqb place no_place)) (both (leb place k) (or (ltb k stop) (eqb place k)))

ways_from : List Family → ℕ → ℕ → List Family → Bool
ways_from fs stop k [] = true
ways_from fs stop k (g ∷ gs) = both (every (λ z. way_at (place_of (forms_at g z) fs 0) stop k) g.sizes) (ways_from fs stop (k + 1) gs)

row_ways : Row → Bool
row_ways r = ways_from r.families (stop_of r.families) 0 r.families

computed : T (every row_ways rows)
unfolding row_ways ways_from way_at every both or rows row_at form_at code.any_size place_of stop_of code.how_many code.twins shared
computed = tt

no-ways : T (row_ways no_row)
unfolding row_ways ways_from
no-ways = tt

ways-at : (fs : List Family) (stop k : ℕ) (gs : List Family) → T (ways_from fs stop k gs) → (i : ℕ) → i < length gs → (z : Size) → Memᴰ z (get_or gs i no_family).sizes
    → T (way_at (place_of (forms_at (get_or gs i no_family) z) fs 0) stop (k + i))
unfolding ways_from
ways-at fs stop k [] h i l z m = absurd (not-suc-le-zero l)
ways-at fs stop k (g ∷ gs) h zero l z m =
    let e : k ≡ k + 0 = omega arith in
    subst (λ (j : ℕ). T (way_at (place_of (forms_at g z) fs 0) stop j)) e (every_in (λ z. way_at (place_of (forms_at g z) fs 0) stop k) g.sizes (both_left _ _ h) z m)
ways-at fs stop k (g ∷ gs) h (suc i) l z m =
    let e : k + 1 + i ≡ k + suc i = omega arith in
    subst (λ (j : ℕ). T (way_at (place_of (forms_at (get_or gs i no_family) z) fs 0) stop j)) e
    (ways-at fs stop (k + 1) gs (both_right (every (λ z. way_at (place_of (forms_at g z) fs 0) stop k) g.sizes) _ h) i (le_of_suc-le-suc l) z m)

-- the family at k is tried: it is the one at the place, or a later one before the stop
pub record Way (place stop k : ℕ) : Type 0 where
  pub there : place ≢ no_place
  pub from : place ≤ k
  pub upto : (k < stop) ⊎ (place ≡ k)

way_of : (place stop k : ℕ) → T (way_at place stop k) → Way place stop k
unfolding way_at
way_of place stop k h =
    let r = both_right (not (eqb place no_place)) _ h in
    record {
      there = λ e. T_not (eqb place no_place) (both_left _ _ h) (rw (eq-eqb place no_place e) tt);
      from = leb→le place k (both_left _ _ r);
      upto = ⊎_elim (λ a. inl (ltb→lt k stop a)) (λ b. inr (eqb→eq place k b)) (or_cases (ltb k stop) (eqb place k) (both_right (leb place k) _ r));
    }

pub way : (row k : ℕ) (z : Size) → k < length (row_at row).families → Memᴰ z (family_at row k).sizes
    → Way (place_of (forms_at (family_at row k) z) (row_at row).families 0) (stop_of (row_at row).families) k
unfolding row_at row_ways
way row k z h m =
    let fs = (row_at row).families in
    let e : 0 + k ≡ k = omega arith in
    way_of (place_of (forms_at (family_at row k) z) fs 0) (stop_of fs) k
    (subst (λ (j : ℕ). T (way_at (place_of (forms_at (family_at row k) z) fs 0) (stop_of fs) j)) e
    (ways-at fs (stop_of fs) 0 fs (every-at row_ways no_row rows no-ways computed row) k h z m))

-- a place is one of the row's

pub place-within : (forms : ℕ) (fs : List Family) (i : ℕ) → place_of forms fs i ≢ no_place → place_of forms fs i < i + length fs
unfolding place_of
place-within forms [] i h = absurd (h refl)
place-within forms (f ∷ fs) i h = go (has_forms forms f) refl (place-within forms fs (i + 1))
  where
    go : (b : Bool) → has_forms forms f ≡ b → (place_of forms fs (i + 1) ≢ no_place → place_of forms fs (i + 1) < i + 1 + length fs)
        → pick (has_forms forms f) i (place_of forms fs (i + 1)) < i + suc (length fs)
    go true e ih = rw e (omega arith)
    go false e ih = let l = ih (λ q. h (rw e q)) in rw e (omega arith)

pub stop-within : (fs : List Family) → stop_of fs ≤ length fs
unfolding stop_of
stop-within fs = go (shared fs)
  where
    go : (b : Bool) → pick b (length fs) 0 ≤ length fs
    go true = omega arith
    go false = omega arith
