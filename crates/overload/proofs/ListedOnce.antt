-- "Each choice of T, width and shape is one overload, listed once": no row has an overload twice, which antt computes. Assumes nothing.
use Rattle.std.proofs.Common.{ℕ, Bool, true, false, not, T, List, [], ◌∷◌}
use Rattle.conv.specs.Rank.{both, tag_of, first_of, second_of, element_of, made, component_of, same_ty}
use Rattle.overload.specs.Overload.{Overload, or, same_tys, same_overload}
use Rattle.overload.proofs.Families.{every, every-at}
use Rattle.overload.specs.Rows as rows
use Rattle.overload.specs.Rows.{Row, no_row, overloads_of, row_at, rows}

unfoldable pub stands : Overload → List Overload → Bool
stands o [] = false
stands o (p ∷ ps) = or (same_overload o p) (stands o ps)

unfoldable pub once : List Overload → Bool
once [] = true
once (o ∷ os) = both (not (stands o os)) (once os)

row_once : Row → Bool
row_once r = once (overloads_of r)

computed : T (every row_once rows)
unfolding every row_once stands once or both same_tys same_ty tag_of first_of second_of element_of made component_of rows row_at rows.form_at rows.component_at rows.of_families rows.over_set rows.at_sizes rows.over_second
computed = tt

no-row : T (row_once no_row)
unfolding row_once once rows.of_families
no-row = tt

pub listed-once : (row : ℕ) → T (once (overloads_of (row_at row)))
unfolding row_at row_once
listed-once row = every-at row_once no_row rows no-row computed row
