-- Document 01, "Template types": a head with a list answers that type, entered if absent. Assumes nothing.
use Rattle.std.specs.Prelude.{ℕ, Bool, ◌&&◌, ◌||◌, not, cond, List, eqb, ℤ, Option, Some, None, Result, Ok, Err}
use Rattle.conv.specs.Types.{Ty, bool, i32, u32, f32, f16, is_value, is_runtime}
use Rattle.conv.specs.Types.Ty.{vec, mat, array, runtime, atomic}
use Rattle.table.specs.Table.{soundb}
use Rattle.table.specs.Denote.{type_at}
use Rattle.table.specs.Placing.{Outcome, turned_down, entering}
use Rattle.answer.specs.declared.TypeNo.{TypeNo}
use Rattle.answer.specs.declared.Reason.{Reason}
use Rattle.answer.specs.declared.Reason.TheVariants.{Unsound, NoSuchType, Unknown, Template}
use Rattle.tplt.specs.declared.head.Head.{Head}
use Rattle.tplt.specs.declared.head.Head.TheVariants.{Vector, Matrix, Atomic, Array}
use Rattle.tplt.specs.declared.param.Arguments.{Arguments}
use Rattle.tplt.specs.declared.param.Arguments.TheVariants.{One, Two}
use Rattle.tplt.specs.declared.param.TpltParam.{TpltParam}
use Rattle.tplt.specs.declared.Parsed.{Parsed}
use Rattle.tplt.specs.declared.Parsed.TheVariants.{OfVec, OfMat, OfAtomic, OfArray}
use Rattle.tplt.specs.Heads.{head_of}
use Rattle.tplt.specs.Params.{params_of, types_known, arguments_of, count_of}

-- a list that is one type alone, of the component numbers that pass a test
abbrev pub component : (ℕ → Bool) → (TypeNo → Parsed) → Option Arguments → Result Parsed Reason
component test make (Some (One t)) = cond (test t.0) (Ok (make t)) (Err Template)
component test make (Some (Two t p)) = Err Template
component test make None = Err Template

-- "vec: bool, i32, u32, f32, f16": a scalar's number is its own
abbrev pub is_concrete : ℕ → Bool
is_concrete t = eqb t bool || eqb t i32 || eqb t u32 || eqb t f32 || eqb t f16

unfoldable pub vec_parsed : ℕ → Option Arguments → Result Parsed Reason
vec_parsed n a = component is_concrete (λ t. OfVec (record { n = n; ty = t })) a

-- "mat: f32, f16"
abbrev pub is_matrix_component : ℕ → Bool
is_matrix_component t = eqb t f32 || eqb t f16

unfoldable pub mat_parsed : ℕ → ℕ → Option Arguments → Result Parsed Reason
mat_parsed c r a = component is_matrix_component (λ t. OfMat (record { c = c; r = r; ty = t })) a

-- "atomic: i32, u32"
abbrev pub is_atomic_component : ℕ → Bool
is_atomic_component t = eqb t i32 || eqb t u32

unfoldable pub atomic_parsed : Option Arguments → Result Parsed Reason
atomic_parsed a = component is_atomic_component (λ t. OfAtomic (record { ty = t })) a

-- "array: a type (abstract too, crate rule), alone or with a literal"; of a pointer, a reference or an array without count it is 5
-- before the count is looked at
abbrev pub is_element : Ty → Bool
is_element R = is_value R && not (is_runtime R)

abbrev pub of_count : TypeNo → Result ℕ Reason → Result Parsed Reason
of_count t (Ok k) = Ok (OfArray (record { n = Some k; ty = t }))
of_count t (Err r) = Err r

abbrev pub counted : TypeNo → Option TpltParam → Result Parsed Reason
counted t None = Ok (OfArray (record { n = None; ty = t }))
counted t (Some p) = of_count t (count_of p)

unfoldable pub array_of_type : List ℕ → TypeNo → Option TpltParam → Result Parsed Reason
array_of_type w t p = cond (is_element (type_at w t.0)) (counted t p) (Err Template)

unfoldable pub array_parsed : List ℕ → Option Arguments → Result Parsed Reason
array_parsed w (Some (One t)) = array_of_type w t None
array_parsed w (Some (Two t p)) = array_of_type w t (Some p)
array_parsed w None = Err Template

-- a head and a list, over a table
unfoldable pub parsed_of : List ℕ → Option Head → Option Arguments → Result Parsed Reason
parsed_of w (Some (Vector n)) a = vec_parsed n a
parsed_of w (Some (Matrix c r)) a = mat_parsed c r a
parsed_of w (Some Atomic) a = atomic_parsed a
parsed_of w (Some Array) a = array_parsed w a
parsed_of w None a = Err Unknown

-- the type of a template
abbrev pub array_of : Option ℕ → Ty → Ty
array_of (Some k) R = array k R
array_of None R = runtime R

unfoldable pub type_of : List ℕ → Parsed → Ty
type_of w (OfVec t) = vec t.n t.ty.0
type_of w (OfMat t) = mat t.c t.r t.ty.0
type_of w (OfAtomic t) = atomic t.ty.0
type_of w (OfArray t) = array_of t.n (type_at w t.ty.0)

-- the outcome: the type is entered if absent, or 9; else the reason, at place 0
unfoldable pub outcome_of : List ℕ → ℕ → Result Parsed Reason → Outcome
outcome_of w n (Ok p) = entering 0 w n (type_of w p)
outcome_of w n (Err r) = turned_down r 0 w n

-- the whole, in the order 1, 2, 4, 5, 6, 9
unfoldable pub template_outcome : List ℕ → ℕ → List ℕ → List ℤ → Outcome
template_outcome w n head args =
    cond (soundb w n)
    (cond (types_known (params_of n args))
    (outcome_of w n (parsed_of w (head_of head) (arguments_of n args)))
    (turned_down NoSuchType 0 w n))
    (turned_down Unsound 0 w n)
