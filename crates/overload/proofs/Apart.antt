-- At most one family of a row fits: for any two and any sizes of theirs some parameter takes no operand of both, by its shape or by its component. Computed over
-- all rows. So demand 3 holds of a row as it does of its families. Assumes nothing.
use Rattle.std.proofs.Common.{◌≡◌, ℕ, zero, suc, ◌<◌, Bool, true, false, not, T, eqb, ltb, List, [], ◌∷◌, map, length, get_or, sym, refl, ◌∙◌, subst, ⊎_elim, le_of_suc-le-suc, not-suc-le-zero, arith, eqb→eq, T_not, ltb-false, ltb-true, eqb-true}
use mathlib.Core.List.{Memᴰ}
use borrow.Author.Tests.{eqb-false}
use Rattle.conv.specs.Types.{Ty}
use Rattle.conv.specs.Rank.{both, Shape, rank_of, component_of, same_shape}
use Rattle.conv.proofs.Finite.{both_left, both_right, both-pair, all, below}
use Rattle.conv.proofs.Made.{same-shape-self}
use Rattle.overload.specs.Overload.{Overload, or, fits, listed, Preferred}
use Rattle.overload.specs.Rows.{Size, Component, Pattern, Family, Row, form_at, component_at, pattern_ty, of_family, rows, no_row, of_row, row_at}
use Rattle.overload.specs.inner.Code.{member, reaches, no_family}
use Rattle.overload.proofs.Preference.{Settled, Sized, fine, all_fine, or_cases, or_left, or_right, form_small, from-small}
use Rattle.overload.proofs.Families.{Good, good-in, every, every-at, every_in}
use Rattle.overload.proofs.Fitting.{shape-of-fit, component-of-fit}
use Rattle.overload.proofs.Listing.{Of, of-family, listed_of, to-listed}
use Rattle.overload.specs.Marks.{passing}
use Rattle.overload.proofs.Sieve.{narrow, narrow_good, ByT, to_narrow, narrow-preferred}
use Rattle.overload.proofs.Demand3.{family-preferred}

unfoldable any_of : (ℕ → Bool) → List ℕ → Bool
any_of g [] = false
any_of g (t ∷ ts) = or (g t) (any_of g ts)

any-of : (g : ℕ → Bool) (ts : List ℕ) (t : ℕ) → T (member t ts) → T (g t) → T (any_of g ts)
unfolding any_of member
any-of g [] t m h = m
any-of g (u ∷ us) t m h =
    ⊎_elim (λ e. or_left _ _ (subst (λ (k : ℕ). T (g k)) (eqb→eq t u e) h)) (λ n. or_right (g u) _ (any-of g us t n h)) (or_cases (eqb t u) (member t us) m)

-- a scalar converts to a component of a family at some T and I
takes_any : Family → Component → ℕ → Bool
takes_any f c s = any_of (λ t. any_of (λ i. reaches s (component_at c t i)) f.second) f.set

takes-any : (f : Family) (c : Component) (s t i : ℕ) → T (member t f.set) → T (member i f.second) → T (reaches s (component_at c t i)) → T (takes_any f c s)
unfolding takes_any
takes-any f c s t i mt mi h =
    any-of (λ t. any_of (λ i. reaches s (component_at c t i)) f.second) f.set t mt (any-of (λ i. reaches s (component_at c t i)) f.second i mi h)

-- two parameters of other shapes; two that take no scalar of both
shapes_apart : Size → Size → List Pattern → List Pattern → Bool
shapes_apart z y [] qs = false
shapes_apart z y (p ∷ ps) [] = false
shapes_apart z y (p ∷ ps) (q ∷ qs) = or (not (same_shape (form_at p.form z) (form_at q.form y))) (shapes_apart z y ps qs)

scalars_apart : Family → Family → List Pattern → List Pattern → Bool
scalars_apart f g [] qs = false
scalars_apart f g (p ∷ ps) [] = false
scalars_apart f g (p ∷ ps) (q ∷ qs) = or (all 7 (λ s. not (both (takes_any f p.of s) (takes_any g q.of s)))) (scalars_apart f g ps qs)

apart_at : Family → Size → Family → Size → Bool
apart_at f z g y = or (shapes_apart z y f.params g.params) (scalars_apart f g f.params g.params)

apart : Family → Family → Bool
apart f g = every (λ z. every (λ y. apart_at f z g y) g.sizes) f.sizes

pairs_apart : List Family → Bool
pairs_apart [] = true
pairs_apart (f ∷ fs) = both (every (apart f) fs) (pairs_apart fs)

row_apart : Row → Bool
row_apart r = pairs_apart r.families

computed : T (every row_apart rows)
unfolding row_apart pairs_apart apart apart_at shapes_apart scalars_apart takes_any any_of every both or rows row_at form_at component_at rank_of
computed = tt

no-families : T (row_apart no_row)
unfolding row_apart pairs_apart
no-families = tt

row-apart : (row : ℕ) → T (pairs_apart (row_at row).families)
unfolding row_at row_apart
row-apart row = every-at row_apart no_row rows no-families computed row

-- what the test says of operands that fit both

module _ (f g : Family) (z y : Size) (t i u j : ℕ) (hz : Sized z) (hy : Sized y) (ht : t < 7) (hi : i < 7) (hu : u < 7) (hj : j < 7) where
  shapes-clash : (ps qs : List Pattern) (xs : List Ty) → T (all_fine f.set ps) → T (all_fine g.set qs) → T (shapes_apart z y ps qs)
      → T (fits (map (pattern_ty z t i) ps) xs) → T (fits (map (pattern_ty y u j) qs) xs) → ⊥
  unfolding shapes_apart fits
  shapes-clash [] qs xs a b h c d = h
  shapes-clash (p ∷ ps) [] xs a b h c d = h
  shapes-clash (p ∷ ps) (q ∷ qs) [] a b h c d = c
  shapes-clash (p ∷ ps) (q ∷ qs) (x ∷ xs) a b h c d =
      ⊎_elim
      (λ n.
      let e = sym (shape-of-fit f.set x z t i p hz ht hi (both_left _ _ a) (both_left _ _ c)) ∙ shape-of-fit g.set x y u j q hy hu hj (both_left _ _ b) (both_left _ _ d) in
      T_not (same_shape (form_at p.form z) (form_at q.form y)) n (subst (λ (s : Shape). T (same_shape (form_at p.form z) s)) e (same-shape-self (form_at p.form z) (form_small p.form z hz))))
      (λ n. shapes-clash ps qs xs (both_right (fine f.set p.of) _ a) (both_right (fine g.set q.of) _ b) n (both_right _ _ c) (both_right _ _ d))
      (or_cases _ (shapes_apart z y ps qs) h)

  scalars-clash : (ps qs : List Pattern) (xs : List Ty) → T (all_fine f.set ps) → T (all_fine g.set qs) → T (member t f.set) → T (member i f.second) → T (member u g.set) → T (member j g.second)
      → T (scalars_apart f g ps qs) → T (fits (map (pattern_ty z t i) ps) xs) → T (fits (map (pattern_ty y u j) qs) xs) → ⊥
  unfolding scalars_apart fits
  scalars-clash [] qs xs a b mt mi mu mj h c d = h
  scalars-clash (p ∷ ps) [] xs a b mt mi mu mj h c d = h
  scalars-clash (p ∷ ps) (q ∷ qs) [] a b mt mi mu mj h c d = c
  scalars-clash (p ∷ ps) (q ∷ qs) (x ∷ xs) a b mt mi mu mj h c d =
      ⊎_elim
      (λ n.
      let r = component-of-fit f.set x z t i p hz ht hi (both_left _ _ a) (both_left _ _ c) in
      let s = component-of-fit g.set x y u j q hy hu hj (both_left _ _ b) (both_left _ _ d) in
      let k = component_of x in
      T_not (both (takes_any f p.of k) (takes_any g q.of k)) (below 7 (λ s. not (both (takes_any f p.of s) (takes_any g q.of s))) n k (from-small k (component_at p.of t i) r))
      (both-pair (takes_any f p.of k) (takes_any g q.of k) (takes-any f p.of k t i mt mi r) (takes-any g q.of k u j mu mj s)))
      (λ n. scalars-clash ps qs xs (both_right (fine f.set p.of) _ a) (both_right (fine g.set q.of) _ b) mt mi mu mj n (both_right _ _ c) (both_right _ _ d))
      (or_cases _ (scalars_apart f g ps qs) h)

clash : (f g : Family) → Good f → Good g → T (apart f g) → (xs : List Ty) (p o : Overload) → Memᴰ p (of_family f) → Memᴰ o (of_family g) → T (fits p.params xs) → T (fits o.params xs) → ⊥
unfolding apart apart_at
clash f g a b h xs p o mp mo hp ho =
    ⊎_elim (λ s. shapes-clash f g q.z r.z q.t q.i r.t r.i hz hy ht hi hu hj f.params g.params xs a.small b.small s fit other)
    (λ s. scalars-clash f g q.z r.z q.t q.i r.t r.i hz hy ht hi hu hj f.params g.params xs a.small b.small q.in_set q.in_second r.in_set r.in_second s fit other)
    (or_cases _ (scalars_apart f g f.params g.params) at)
  where
    q : Of f p
    q = of-family f p mp

    r : Of g o
    r = of-family g o mo

    hz : Sized q.z
    hz = (a.fair q.z q.in_sizes).sized

    hy : Sized r.z
    hy = (b.fair r.z r.in_sizes).sized

    ht : q.t < 7
    ht = a.set q.t q.in_set

    hi : q.i < 7
    hi = a.second q.i q.in_second

    hu : r.t < 7
    hu = b.set r.t r.in_set

    hj : r.i < 7
    hj = b.second r.i r.in_second

    fit : T (fits (map (pattern_ty q.z q.t q.i) f.params) xs)
    fit = subst (λ (w : Overload). T (fits w.params xs)) q.is hp

    other : T (fits (map (pattern_ty r.z r.t r.i) g.params) xs)
    other = subst (λ (w : Overload). T (fits w.params xs)) r.is ho

    at : T (apart_at f q.z g r.z)
    at = every_in (λ y. apart_at f q.z g y) g.sizes (every_in (λ z. every (λ y. apart_at f z g y) g.sizes) f.sizes h q.z q.in_sizes) r.z r.in_sizes

every-place : (g : Family → Bool) (fs : List Family) → T (every g fs) → (k : ℕ) → k < length fs → T (g (get_or fs k no_family))
unfolding every
every-place g [] h k l = absurd (not-suc-le-zero l)
every-place g (f ∷ fs) h zero l = both_left _ _ h
every-place g (f ∷ fs) h (suc k) l = every-place g fs (both_right (g f) _ h) k (le_of_suc-le-suc l)

pairs-at : (fs : List Family) → T (pairs_apart fs) → (k l : ℕ) → k < l → l < length fs → T (apart (get_or fs k no_family) (get_or fs l no_family))
unfolding pairs_apart
pairs-at [] h k l a b = absurd (not-suc-le-zero b)
pairs-at (f ∷ fs) h k zero a b = absurd (not-suc-le-zero a)
pairs-at (f ∷ fs) h zero (suc l) a b = every-place (apart f) fs (both_left _ _ h) l (le_of_suc-le-suc b)
pairs-at (f ∷ fs) h (suc k) (suc l) a b = pairs-at fs (both_right (every (apart f) fs) _ h) k l (le_of_suc-le-suc a) (le_of_suc-le-suc b)

abbrev pub family_at : ℕ → ℕ → Family
family_at row k = get_or (row_at row).families k no_family

-- ONE FAMILY of a row fits
module _ (row : ℕ) (xs : List Ty) where
  pub one-family : (k l : ℕ) → k < length (row_at row).families → l < length (row_at row).families → (p o : Overload) → Memᴰ p (of_family (family_at row k)) → Memᴰ o (of_family (family_at row l))
      → T (fits p.params xs) → T (fits o.params xs) → k ≡ l
  one-family k l hk hl p o mp mo hp ho = go (eqb k l) refl (ltb k l) refl
    where
      go : (b : Bool) → eqb k l ≡ b → (c : Bool) → ltb k l ≡ c → k ≡ l
      go true e c d = eqb-true k l e
      go false e true d =
          absurd (clash (family_at row k) (family_at row l) (good-in row k) (good-in row l) (pairs-at (row_at row).families (row-apart row) k l (ltb-true k l d) hl) xs p o mp mo hp ho)
      go false e false d =
          let n = eqb-false k l e in
          let m = ltb-false k l d in
          absurd (clash (family_at row l) (family_at row k) (good-in row l) (good-in row k) (pairs-at (row_at row).families (row-apart row) l k (omega arith) hk) xs o p mo mp ho hp)

-- WHAT PASSES A TEST of a row
module _ (row : ℕ) (xs : List Ty) (test : Overload → Bool) where
  -- what is preferred in a family of the row is preferred in the row
  pub row-of-family : (k : ℕ) → k < length (row_at row).families → (o : Overload) → Preferred (passing test (listed (of_family (family_at row k)))) xs o → Preferred (passing test (of_row (row_at row))) xs o
  row-of-family k hk o q =
      record {
        among = (to-listed (row_at row).families k o hk q.among.0, q.among.1);
        fitting = q.fitting;
        over = λ p m h.
            let r = listed_of (row_at row).families p m.0 in
            let e = one-family row xs r.0 k r.1 hk p o r.2 q.among.0 h q.fitting in
            q.over p (subst (λ (l : ℕ). Memᴰ p (of_family (family_at row l))) e r.2, m.1) h;
      }

  -- by a test that goes by T in each family
  module _ (flag : ℕ → Bool) (law : (k : ℕ) → ByT test (family_at row k) (flag k)) where
    -- where an overload that passes fits one is preferred
    pub some-preferred : Settled (passing test (of_row (row_at row))) xs
    some-preferred p m h =
        let r = listed_of (row_at row).families p m.0 in
        let k = r.0 in
        let f = family_at row k in
        let q = family-preferred (narrow (flag k) f) (narrow_good (flag k) f (good-in row k)) xs p (to_narrow test f (flag k) (law k) p (r.2, m.1)) h in
        (q.0, row-of-family k r.1 q.0 (narrow-preferred test f (flag k) (law k) xs q.0 q.1))
