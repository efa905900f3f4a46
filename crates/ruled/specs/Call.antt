-- A ruled call on loaded operands: how it is judged, and what it then does to the table. Assumes nothing.
use Rattle.std.specs.Prelude.{ℕ, Bool, true, false, ◌&&◌, ◌||◌, not, cond, List, [], ◌∷◌, map}
use Rattle.held.specs.Held.{number_of}
use Rattle.conv.specs.Types.{Ty}
use Rattle.conv.specs.Rank.{is_reference}
use Rattle.overload.specs.Overload.{Judged}
use Rattle.overload.specs.Overload.Judged.{gives, none_fits}
use Rattle.overload.specs.Marks.{running_abstract}
use Rattle.overload.specs.Rows.{Ruling, judge_by}
use Rattle.overload.specs.Rows.Ruling.{by_row, address, indirection, on_atomic, comparing, uniform_load, array_length}
use Rattle.table.specs.Denote.{type_at}
use Rattle.table.specs.Placing.{Outcome, turned_down, entering}
use Rattle.answer.specs.declared.Reason.TheVariants.{Reference, NoOverload, RunningAbstract}
use Rattle.answer.specs.declared.Answer.TheVariants.{NoValue}

-- the type of an operand, which is a type's number with a mark
abbrev pub operand_ty : List ℕ → ℕ → Ty
operand_ty w v = type_at w (number_of v)

abbrev pub operand_tys : List ℕ → List ℕ → List Ty
operand_tys w vs = map (type_at w) (map number_of vs)

unfoldable pub any_reference : List Ty → Bool
any_reference [] = false
any_reference (t ∷ ts) = is_reference t || any_reference ts

-- 8 no overload fits; else the result is entered where it is absent, and 9 where room lacks
unfoldable pub judged_outcome : ℕ → List ℕ → ℕ → Judged → Outcome
judged_outcome place w n (gives R) = entering place w n R
judged_outcome place w n none_fits = turned_down NoOverload place w n

-- the same of a call without value, which leaves the table as it is
abbrev pub without_value : List ℕ → ℕ → Outcome
without_value w n = record { answer = NoValue n; words = w }

unfoldable pub silent_outcome : ℕ → List ℕ → ℕ → Judged → Outcome
silent_outcome place w n (gives R) = without_value w n
silent_outcome place w n none_fits = turned_down NoOverload place w n

-- 3 "a reference offered, but to unary `&`", before all of these
unfoldable pub takes_reference : Ruling → Bool
takes_reference (by_row r) = false
takes_reference address = true
takes_reference indirection = false
takes_reference (on_atomic k) = false
takes_reference comparing = false
takes_reference uniform_load = false
takes_reference array_length = false

-- no operand that the ruling may not be offered
abbrev pub offends : Ruling → List Ty → Bool
offends r ts = not (takes_reference r) && any_reference ts

-- "14 for a running operand abstract at any depth, after 3"; ts are the operands' types, ms their marks
unfoldable pub ruled_outcome : ℕ → List ℕ → ℕ → Ruling → List Ty → List Bool → Outcome
ruled_outcome place w n r ts ms =
    cond (offends r ts) (turned_down Reference place w n)
    (cond (running_abstract ts ms) (turned_down RunningAbstract place w n) (judged_outcome place w n (judge_by r ts ms)))
