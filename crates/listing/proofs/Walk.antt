-- The walk along a row's families to the one in which a place stands. Assumes nothing.
use Prim.Native.Nat.{ℕ, zero, suc, ◌+◌, ◌-◌, ◌<◌, ◌≤◌}
use native.Mathlib.Omega.{arith}
use native.Mathlib.Nat.{not-suc-le-zero}
use native.Mathlib.Numerals.{add-one}
use mathlib.Core.Path.{◌≡◌, refl, sym, ◌∙◌, ap, subst}
use mathlib.Core.Bool.{Bool}
use mathlib.Core.List.{List, [], ◌∷◌, ◌++◌, map}
use lib.Dec.{T, leb, leb→le}
use lib.ListN.{length, get_or, take, drop, length-append, get_or-append}
use lib.Seq.{drop-cons, get_or-append-add}
use Rattle.conv.specs.Rank.{both}
use Rattle.overload.specs.Overload.{Overload}
use Rattle.overload.specs.Rows.{Family, Row, no_row, rows, row_at, of_family, of_families, overloads_of, operand_count}
use Rattle.overload.specs.inner.Code.{operand, no_family, family_of}
use Rattle.overload.proofs.Families.{every, every-at}
use Rattle.overload.proofs.Apart.{family_at}
use Rattle.overload.proofs.Counts.{family-count}
use Rattle.listing.specs.Listing.{no_overload, overload_at, Params}
use Rattle.listing.specs.inner.Places.{count_of, codes_at}
use Rattle.listing.proofs.Places.{Place, at_place, count-is}

-- no row has more than eight families
few_test : Row → Bool
few_test r = leb (length r.families) 8

computed : T (every few_test rows)
unfolding every few_test both rows
computed = tt

no-row : T (few_test no_row)
unfolding few_test
no-row = tt

pub few-families : (row : ℕ) → length (row_at row).families ≤ 8
unfolding row_at few_test
few-families row = leb→le _ 8 (every-at few_test no_row rows no-row computed row)

-- the overloads of the families from place k of a row on
abbrev pub rest : ℕ → ℕ → List Overload
rest row k = of_families (drop k (row_at row).families)

-- the overload at place j of the row is that at place n of those
pub record Left (row j k n : ℕ) : Type 0 where
  pub within : n < length (rest row k)
  pub same : get_or (rest row k) n no_overload ≡ overload_at (row_at row) j

pub at-start : (row j : ℕ) → j < length (overloads_of (row_at row)) → Left row j 0 j
at-start row j h = record { within = h; same = refl }

-- there is a family at place k, and its overloads come first

more-in : (fs : List Family) (k n : ℕ) → n < length (of_families (drop k fs)) → k < length fs
unfolding of_families
more-in [] zero n h = absurd (not-suc-le-zero h)
more-in [] (suc k) n h = absurd (not-suc-le-zero h)
more-in (f ∷ fs) zero n h = omega arith
more-in (f ∷ fs) (suc k) n h = let l = more-in fs k n h in omega arith

pub more : (row j k n : ℕ) → Left row j k n → k < length (row_at row).families
more row j k n l = more-in (row_at row).families k n l.within

first : (row j k n : ℕ) → Left row j k n → rest row k ≡ of_family (family_at row k) ++ rest row (suc k)
unfolding of_families
first row j k n l = ap of_families (drop-cons (row_at row).families k no_family (more row j k n l))

-- the place stands in that family
pub stands_here : (row j k n : ℕ) → Left row j k n → n < length (of_family (family_at row k)) → get_or (of_family (family_at row k)) n no_overload ≡ overload_at (row_at row) j
stands_here row j k n l h =
    sym (get_or-append (of_family (family_at row k)) (rest row (suc k)) no_overload n h)
    ∙ ap (λ (os : List Overload). get_or os n no_overload) (sym (first row j k n l))
    ∙ l.same

-- or behind it
pub stands-behind : (row j k n : ℕ) → Left row j k n → (c : ℕ) → length (of_family (family_at row k)) ≡ c → c ≤ n → Left row j (k + 1) (n - c)
stands-behind row j k n l c e h =
    let os = of_family (family_at row k) in
    let q = first row j k n l in
    let s = subst (λ (xs : List Overload). n < length xs) q l.within in
    let t = length-append os (rest row (suc k)) in
    let a : n ≡ length os + (n - c) = omega arith in
    subst (λ (m : ℕ). Left row j m (n - c)) (sym (add-one k))
    (record {
      within = omega arith;
      same =
          sym (get_or-append-add os (rest row (suc k)) (n - c) no_overload)
          ∙ ap (λ (m : ℕ). get_or (os ++ rest row (suc k)) m no_overload) (sym a)
          ∙ ap (λ (xs : List Overload). get_or xs n no_overload) (sym q)
          ∙ l.same;
    })

-- WHERE THE WALK ENDS: the parameters at the place of that family are those of the overload

code-small : (g : Family) (n : ℕ) → Place g n → (k : ℕ) → k < 4 → get_or (codes_at g n) k 0 < 91
code-small g n p zero h = p.codes zero h
code-small g n p (suc zero) h = p.codes (suc zero) h
code-small g n p (suc (suc zero)) h = p.codes (suc (suc zero)) h
code-small g n p (suc (suc (suc zero))) h = p.codes (suc (suc (suc zero))) h
code-small g n p (suc (suc (suc (suc k)))) h = absurd (omega arith)

pub found : (row j k n f : ℕ) → Left row j k n → family_of f ≡ family_at row k → n < count_of (family_of f) → (codes : List ℕ) → codes ≡ codes_at (family_of f) n → Params row j codes
found row j k n f l e h codes q =
    let p = at_place f n h in
    let c : length (family_of f).params ≡ operand_count (row_at row) = ap (λ (g : Family). length g.params) e ∙ family-count row k (more row j k n l) in
    let w : n < length (of_family (family_at row k)) = subst (λ (g : Family). n < length (of_family g)) e (subst (λ (m : ℕ). n < m) (sym (count-is f)) h) in
    record {
      four = ap (λ (xs : List ℕ). length xs) q;
      are =
          ap (λ (xs : List ℕ). map operand (take (operand_count (row_at row)) xs)) q
          ∙ ap (λ (m : ℕ). map operand (take m (codes_at (family_of f) n))) (sym c)
          ∙ p.are
          ∙ ap (λ (g : Family). (get_or (of_family g) n no_overload).params) e
          ∙ ap (λ (o : Overload). o.params) (stands_here row j k n l w);
      small = λ m b. subst (λ (xs : List ℕ). get_or xs m 0 < 91) (sym q) (code-small (family_of f) n p m b);
    }
