-- Which overload of a row is chosen, where one operand is running or none: as `is_chosen` of `reasons/specs/Reasons.antt` has it by the marks. Assumes nothing.
use Rattle.std.specs.Prelude.{Bool, not, List}
use Rattle.conv.specs.Types.{Ty}
use Rattle.conv.specs.Rank.{both}
use Rattle.overload.specs.Overload.{Overload, or, yields, is_preferred}
use Rattle.overload.specs.Marks.{any_abstract, sifted}
use Rattle.overload.specs.Rows.{Row, overloads_of}
use Rattle.overload.specs.inner.Code.{kept}

-- an overload is left, by its parameters
abbrev pub left_by : Bool → List Ty → Bool
left_by running ps = or (not running) (not (any_abstract ps))

-- an overload is left and preferred to every other that is left
abbrev pub chosen_by : Bool → Row → List Ty → Overload → Bool
chosen_by running r ts o = both (kept running o) (is_preferred (sifted (kept running) (overloads_of r)) ts o)

-- an overload is not left, or does not keep o from being preferred
abbrev pub stands_back : Bool → List Ty → Overload → Overload → Bool
stands_back running ts o p = or (not (kept running p)) (yields ts o p)
