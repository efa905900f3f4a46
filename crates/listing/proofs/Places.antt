-- Every place of every family, by one computed test: it has a T, a size and an I, and the parameters at them are those of the overload that stands there. Assumes nothing.
use Prim.Native.Nat.{ℕ, ◌/◌, ◌%◌, ◌<◌}
use mathlib.Core.Path.{◌≡◌}
use mathlib.Core.Bool.{Bool}
use mathlib.Core.List.{map}
use lib.Dec.{T, eqb, ltb, eqb→eq, ltb→lt}
use lib.ListN.{length, get_or, take}
use Rattle.conv.specs.Rank as ranks
use Rattle.conv.specs.Rank.{both}
use Rattle.conv.proofs.Finite.{both_left, both_right, all, below}
use Rattle.overload.specs.Overload.{same_tys}
use Rattle.overload.specs.Rows as rows
use Rattle.overload.specs.Rows.{Family, Row, of_family, rows}
use Rattle.overload.specs.inner.Code as code
use Rattle.overload.specs.inner.Code.{operand, asked_of, families, family_of, no_family}
use Rattle.overload.proofs.Families.{every, every-at, joined-every}
use Rattle.overload.proofs.Judge.{same_tys_lem}
use Rattle.listing.specs.Listing.{no_overload}
use Rattle.listing.specs.inner.Places.{count_of, turn_of, n_at, form_in, component_in, code_at, codes_at, Asked}

param_test : Family → ℕ → ℕ → Bool
param_test g j k =
    both (ltb (form_in g k) 7) (both (ltb (asked_of (form_in g k) (n_at g j)) 13) (both (ltb (component_in g k) 10) (ltb (code_at g j k) 91)))

place_test : Family → ℕ → Bool
place_test g j =
    both (ltb (j % length g.second) (length g.second))
    (both (ltb (turn_of g j % length g.sizes) (length g.sizes))
    (both (ltb (turn_of g j / length g.sizes) (length g.set))
    (both (ltb (n_at g j) 41)
    (both (all 4 (param_test g j)) (same_tys (map operand (take (length g.params) (codes_at g j))) (get_or (of_family g) j no_overload).params)))))

family_test : Family → Bool
family_test g = both (eqb (length (of_family g)) (count_of g)) (all (count_of g) (place_test g))

computed : T (every (λ (r : Row). every family_test r.families) rows)
unfolding every family_test place_test param_test both rows rows.form_at rows.component_at rows.wrapped rows.over_second rows.at_sizes rows.over_set ranks.made ranks.same_ty ranks.tag_of ranks.first_of ranks.second_of ranks.element_of ranks.component_of same_tys asked_of code.shape_of_no code.shape_no code.size_of_no code.size_no code.form_no code.form_of_no code.component_no code.component_of_no code.wrap_no code.pivot_no code.encode
computed = tt

none-there : T (family_test no_family)
unfolding family_test both rows.over_set
none-there = tt

tested : (f : ℕ) → T (family_test (family_of f))
unfolding family_of families
tested f = every-at family_test no_family families none-there (joined-every family_test rows computed) f

-- WHAT A PLACE OF A FAMILY HOLDS
pub record Place (g : Family) (j : ℕ) : Type 0 where
  pub second : j % length g.second < length g.second
  pub size : turn_of g j % length g.sizes < length g.sizes
  pub t : turn_of g j / length g.sizes < length g.set
  pub small : n_at g j < 41
  pub asked : (k : ℕ) → k < 4 → Asked g (n_at g j) k
  pub codes : (k : ℕ) → k < 4 → code_at g j k < 91
  pub are : map operand (take (length g.params) (codes_at g j)) ≡ (get_or (of_family g) j no_overload).params

asked-of : (g : Family) (j k : ℕ) → T (param_test g j k) → Asked g (n_at g j) k × (code_at g j k < 91)
unfolding param_test
asked-of g j k h =
    let h₁ = both_right (ltb (form_in g k) 7) _ h in
    let h₂ = both_right (ltb (asked_of (form_in g k) (n_at g j)) 13) _ h₁ in (
      record {
        form = ltb→lt (form_in g k) 7 (both_left _ _ h);
        shape = ltb→lt (asked_of (form_in g k) (n_at g j)) 13 (both_left _ _ h₁);
        component = ltb→lt (component_in g k) 10 (both_left _ _ h₂);
      },
      ltb→lt (code_at g j k) 91 (both_right (ltb (component_in g k) 10) _ h₂),
    )

place_of : (g : Family) (j : ℕ) → T (place_test g j) → Place g j
unfolding place_test
place_of g j h =
    let h₁ = both_right (ltb (j % length g.second) (length g.second)) _ h in
    let h₂ = both_right (ltb (turn_of g j % length g.sizes) (length g.sizes)) _ h₁ in
    let h₃ = both_right (ltb (turn_of g j / length g.sizes) (length g.set)) _ h₂ in
    let h₄ = both_right (ltb (n_at g j) 41) _ h₃ in
    record {
      second = ltb→lt _ _ (both_left _ _ h);
      size = ltb→lt _ _ (both_left _ _ h₁);
      t = ltb→lt _ _ (both_left _ _ h₂);
      small = ltb→lt (n_at g j) 41 (both_left _ _ h₃);
      asked = λ k l. (asked-of g j k (below 4 (param_test g j) (both_left _ _ h₄) k l)).0;
      codes = λ k l. (asked-of g j k (below 4 (param_test g j) (both_left _ _ h₄) k l)).1;
      are = same_tys_lem _ _ (both_right (all 4 (param_test g j)) _ h₄);
    }

pub count-is : (f : ℕ) → length (of_family (family_of f)) ≡ count_of (family_of f)
unfolding family_test
count-is f = eqb→eq _ _ (both_left _ _ (tested f))

pub at_place : (f j : ℕ) → j < count_of (family_of f) → Place (family_of f) j
unfolding family_test
at_place f j h =
    place_of (family_of f) j
    (below (count_of (family_of f)) (place_test (family_of f)) (both_right (eqb (length (of_family (family_of f))) (count_of (family_of f))) _ (tested f)) j h)
