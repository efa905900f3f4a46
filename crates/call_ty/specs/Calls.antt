-- The builtins of documents 01 and 02, by their names, and what a call of one does in a profile, on operands with marks. Assumes nothing.
use Rattle.std.specs.Prelude.{ℕ, suc, Bool, true, false, ◌&&◌, ◌||◌, cond, List, [], ◌∷◌, map, eqb, ltb, length, get_or}
use Rattle.held.specs.Held.{number_of, mark_of}
use Rattle.conv.specs.Types.{Ty, bool, abstract_int, i32, u32, is_float}
use Rattle.conv.specs.Types.Ty.{scalar}
use Rattle.conv.specs.Rank.{tag_of, component_of}
use Rattle.overload.specs.Overload.{Judged, or}
use Rattle.overload.specs.Overload.Judged.{gives}
use Rattle.overload.specs.Marks.{any_running, running_abstract}
use Rattle.overload.specs.Rows.{Ruling, operand_count, judge_by}
use Rattle.overload.specs.Rows.Ruling.{by_row, address, indirection, on_atomic, comparing, uniform_load, array_length}
use Rattle.names.specs.Names.{Rule, Named, rule_of}
use Rattle.names.specs.Names.Rule.{ruling, storing, bitcast, barrier}
use Rattle.names.specs.Names.Named.{rule, unknown}
use Rattle.table.specs.Table.{soundb}
use Rattle.table.specs.Denote.{type_at}
use Rattle.table.specs.Placing.{Outcome, turned_down}
use Rattle.answer.specs.declared.Reason.TheVariants.{Unsound, NoSuchType, Reference, Unknown, Template, Operands, RunningAbstract}
use Rattle.ruled.specs.Call.{any_reference, judged_outcome, without_value, silent_outcome}

-- WORDS OF THE CRATE RULES

abbrev pub is_scalar : Ty → Bool
is_scalar t = eqb (tag_of t) 0

abbrev pub is_vector : Ty → Bool
is_vector t = eqb (tag_of t) 1

-- "Float means AbstractFloat, f32, f16; numeric adds AbstractInt, i32, u32"
abbrev pub is_numeric : ℕ → Bool
is_numeric s = is_float s || eqb s abstract_int || eqb s i32 || eqb s u32

unfoldable pub wide_numeric : Ty → Bool
wide_numeric t = (is_scalar t || is_vector t) && is_numeric (component_of t)

-- the first and the second of a list
abbrev pub first_in : List Ty → Ty
first_in ts = get_or ts 0 (scalar bool)

abbrev pub second_in : List Ty → Ty
second_in ts = get_or ts 1 (scalar bool)

-- THE TEMPLATE LIST: "`bitcast` with one template type, numeric scalar or vector (else 5)"; no other builtin wants one

abbrev pub no_list : List Ty → Bool
no_list ts = eqb (length ts) 0

unfoldable pub template_right : Rule → List Ty → Bool
template_right (ruling r) ts = no_list ts
template_right storing ts = no_list ts
template_right bitcast ts = eqb (length ts) 1 && wide_numeric (first_in ts)
template_right barrier ts = no_list ts

-- HOW MANY OPERANDS a rule wants: as many as its overloads have parameters. atomicStore takes a pointer and one value

unfoldable pub operands_by : Ruling → ℕ
operands_by (by_row r) = operand_count r
operands_by address = 1
operands_by indirection = 1
operands_by (on_atomic k) = suc k
operands_by comparing = 3
operands_by uniform_load = 1
operands_by array_length = 1

unfoldable pub operands_of : Rule → ℕ
operands_of (ruling r) = operands_by r
operands_of storing = operands_by (on_atomic 1)
operands_of bitcast = 1
operands_of barrier = 0

-- THE RULES, on operands of which none is a reference, and none both running and abstract

-- what a rule gives: a judgment; no value, where one is accepted; or no value at all
pub data Given : Type 0 where
  judgment silently : Judged → Given
  nothing : Given

-- a ruled name by its overloads; document 02, K5: "atomicStore has no value"; `bitcast` gives its template type; "storageBarrier, textureBarrier, workgroupBarrier: no operand,
-- no value". Only overloads look at the operands' marks, ms
unfoldable pub given_by : Rule → List Ty → List Ty → List Bool → Given
given_by (ruling r) ts us ms = judgment (judge_by r us ms)
given_by storing ts us ms = silently (judge_by (on_atomic 1) us ms)
given_by bitcast ts us ms = judgment (gives (first_in ts))
given_by barrier ts us ms = nothing

-- 8, 9 or the type's number; where there is no value the table stays as it is
unfoldable pub given_outcome : ℕ → List ℕ → ℕ → Given → Outcome
given_outcome place w n (judgment j) = judged_outcome place w n j
given_outcome place w n (silently j) = silent_outcome place w n j
given_outcome place w n nothing = without_value w n

-- A CALL ON LOADED OPERANDS, at a place: 4 a name that the profile has not, 5 the template list, 7 the operand count, 3 a reference offered, 14 an operand both running and
-- abstract at any depth, then its rule

unfoldable pub by_rule : ℕ → List ℕ → ℕ → Named → List Ty → List Ty → List Bool → Outcome
by_rule place w n unknown ts us ms = turned_down Unknown place w n
by_rule place w n (rule r runs) ts us ms =
    cond (template_right r ts)
    (cond (eqb (length us) (operands_of r))
    (cond (any_reference us) (turned_down Reference place w n)
    (cond (running_abstract us ms) (turned_down RunningAbstract place w n) (given_outcome place w n (given_by r ts us ms))))
    (turned_down Operands place w n))
    (turned_down Template place w n)

abbrev pub call_outcome : ℕ → ℕ → List ℕ → ℕ → List ℕ → List Ty → List Ty → List Bool → Outcome
call_outcome profile place w n name ts us ms = by_rule place w n (rule_of profile name) ts us ms

-- "a result is const when all operands are. Derivatives, barriers, arrayLength and subgroup or quad calls give running results even so"
unfoldable pub runs_by : Named → List Bool → Bool
runs_by unknown ms = false
runs_by (rule r runs) ms = or runs (any_running ms)

-- A SINGLE CALL, at place 0: 1, then 2 over the template list and over the operands, before these

unfoldable pub all_under : ℕ → List ℕ → Bool
all_under n [] = true
all_under n (t ∷ ts) = ltb t n && all_under n ts

-- the types' numbers and the marks of operands; the types of numbers
abbrev pub numbers : List ℕ → List ℕ
numbers args = map number_of args

abbrev pub marks_of : List ℕ → List Bool
marks_of args = map mark_of args

abbrev pub types : List ℕ → List ℕ → List Ty
types w ts = map (type_at w) ts

unfoldable pub type_builtin_fn : ℕ → List ℕ → ℕ → List ℕ → List ℕ → List ℕ → Outcome
type_builtin_fn profile w n name tplt args =
    cond (soundb w n)
    (cond (all_under n tplt)
    (cond (all_under n (numbers args))
    (call_outcome profile 0 w n name (types w tplt) (types w (numbers args)) (marks_of args))
    (turned_down NoSuchType 0 w n))
    (turned_down NoSuchType 0 w n))
    (turned_down Unsound 0 w n)

abbrev pub builtin_runs : ℕ → List ℕ → List ℕ → Bool
builtin_runs profile name args = runs_by (rule_of profile name) (marks_of args)
