-- The types of document 01, as a WGSL reader writes them, and which of them there are. Assumes nothing.
use Rattle.std.specs.Prelude.{ℕ, Bool, true, false, ◌&&◌, ◌||◌, not, cond, eqb, leb, ltb}

-- WGSL "Types": the seven scalars, by document 01's numbers
abbrev pub bool : ℕ
bool = 0

abbrev pub abstract_int : ℕ
abstract_int = 1

abbrev pub abstract_float : ℕ
abstract_float = 2

abbrev pub i32 : ℕ
i32 = 3

abbrev pub u32 : ℕ
u32 = 4

abbrev pub f32 : ℕ
f32 = 5

abbrev pub f16 : ℕ
f16 = 6

-- WGSL "Address Spaces"
abbrev pub function : ℕ
function = 0

abbrev pub private : ℕ
private = 1

abbrev pub workgroup : ℕ
workgroup = 2

abbrev pub uniform : ℕ
uniform = 3

abbrev pub storage : ℕ
storage = 4

abbrev pub handle : ℕ
handle = 5

-- WGSL "Memory Access Mode"
abbrev pub read : ℕ
read = 0

abbrev pub write : ℕ
write = 1

abbrev pub read_write : ℕ
read_write = 2

-- a type. A vector has its width and its component, a matrix its columns, its rows and its component; an array its count;
-- a pointer and a reference their space and their access. A result of frexp and one of modf have the type of `fract`; a result of atomicCompareExchangeWeak has the
-- component of the atomic
pub data Ty : Type 0 where
  scalar : ℕ → Ty
  vec : ℕ → ℕ → Ty
  mat : ℕ → ℕ → ℕ → Ty
  array : ℕ → Ty → Ty
  runtime : Ty → Ty
  atomic : ℕ → Ty
  ptr ref : ℕ → ℕ → Ty → Ty
  frexp modf : Ty → Ty
  exchange : ℕ → Ty

-- a float scalar: AbstractFloat, f32, f16
abbrev pub is_float : ℕ → Bool
is_float s = eqb s abstract_float || eqb s f32 || eqb s f16

-- an abstract scalar: AbstractInt, AbstractFloat
abbrev pub is_abstract : ℕ → Bool
is_abstract s = eqb s abstract_int || eqb s abstract_float

-- a width, a count of columns, a count of rows: 2 to 4
abbrev pub is_width : ℕ → Bool
is_width n = leb 2 n && leb n 4

-- abstract at any depth
unfoldable pub abstract_ty : Ty → Bool
abstract_ty (scalar s) = is_abstract s
abstract_ty (vec n s) = is_abstract s
abstract_ty (mat c r s) = is_abstract s
abstract_ty (array k t) = abstract_ty t
abstract_ty (runtime t) = abstract_ty t
abstract_ty (atomic s) = is_abstract s
abstract_ty (ptr space access t) = abstract_ty t
abstract_ty (ref space access t) = abstract_ty t
abstract_ty (frexp t) = abstract_ty t
abstract_ty (modf t) = abstract_ty t
abstract_ty (exchange s) = is_abstract s

-- neither a pointer nor a reference
unfoldable pub is_value : Ty → Bool
is_value (scalar s) = true
is_value (vec n s) = true
is_value (mat c r s) = true
is_value (array k t) = true
is_value (runtime t) = true
is_value (atomic s) = true
is_value (ptr space access t) = false
is_value (ref space access t) = false
is_value (frexp t) = true
is_value (modf t) = true
is_value (exchange s) = true

-- an array without count
unfoldable pub is_runtime : Ty → Bool
is_runtime (scalar s) = false
is_runtime (vec n s) = false
is_runtime (mat c r s) = false
is_runtime (array k t) = false
is_runtime (runtime t) = true
is_runtime (atomic s) = false
is_runtime (ptr space access t) = false
is_runtime (ref space access t) = false
is_runtime (frexp t) = false
is_runtime (modf t) = false
is_runtime (exchange s) = false

-- what `fract` may be: a float scalar or a float vector
unfoldable pub is_fract : Ty → Bool
is_fract (scalar s) = is_float s
is_fract (vec n s) = is_float s
is_fract (mat c r s) = false
is_fract (array k t) = false
is_fract (runtime t) = false
is_fract (atomic s) = false
is_fract (ptr space access t) = false
is_fract (ref space access t) = false
is_fract (frexp t) = false
is_fract (modf t) = false
is_fract (exchange s) = false

-- there is such a type: one line for each row of document 01's table, and document 02's kind 16, K5
unfoldable pub formed : Ty → Bool
formed (scalar s) = ltb s 7
formed (vec n s) = is_width n && ltb s 7
formed (mat c r s) = is_width c && is_width r && is_float s
formed (array k t) = leb 1 k && (is_value t && not (is_runtime t)) && formed t
formed (runtime t) = (is_value t && not (is_runtime t)) && formed t
formed (atomic s) = eqb s i32 || eqb s u32
formed (ptr space access t) = leb space storage && leb access read_write && is_value t && not (abstract_ty t) && formed t
formed (ref space access t) = leb space handle && leb access read_write && is_value t && not (abstract_ty t) && formed t
formed (frexp t) = is_fract t && formed t
formed (modf t) = is_fract t && formed t
formed (exchange s) = eqb s i32 || eqb s u32

-- the members of a result: that of frexp has `fract` and `exp`, that of modf `fract` and `whole`, that of atomicCompareExchangeWeak `old_value` and `exchanged`. No call asks
-- for one. A type that is no result has no members: what is written for it stands for nothing

-- `exp` is AbstractInt for an abstract `fract`, else i32, with the same width: of `fract` itself, the type that has its width and this component
abbrev pub exponent : ℕ → ℕ
exponent s = cond (is_abstract s) abstract_int i32

unfoldable pub exp_of : Ty → Ty
exp_of (scalar s) = scalar (exponent s)
exp_of (vec n s) = vec n (exponent s)
exp_of (mat c r s) = mat c r s
exp_of (array k t) = array k t
exp_of (runtime t) = runtime t
exp_of (atomic s) = atomic s
exp_of (ptr space access t) = ptr space access t
exp_of (ref space access t) = ref space access t
exp_of (frexp t) = exp_of t
exp_of (modf t) = modf t
exp_of (exchange s) = exchange s

-- `fract`, and `whole` of the same type
unfoldable pub fract_of : Ty → Ty
fract_of (scalar s) = scalar s
fract_of (vec n s) = vec n s
fract_of (mat c r s) = mat c r s
fract_of (array k t) = array k t
fract_of (runtime t) = runtime t
fract_of (atomic s) = atomic s
fract_of (ptr space access t) = ptr space access t
fract_of (ref space access t) = ref space access t
fract_of (frexp t) = t
fract_of (modf t) = t
fract_of (exchange s) = exchange s

abbrev pub whole_of : Ty → Ty
whole_of t = fract_of t

-- `old_value` has the atomic's component, and `exchanged` is a bool
unfoldable pub old_value_of : Ty → Ty
old_value_of (scalar s) = scalar s
old_value_of (vec n s) = vec n s
old_value_of (mat c r s) = mat c r s
old_value_of (array k t) = array k t
old_value_of (runtime t) = runtime t
old_value_of (atomic s) = atomic s
old_value_of (ptr space access t) = ptr space access t
old_value_of (ref space access t) = ref space access t
old_value_of (frexp t) = frexp t
old_value_of (modf t) = modf t
old_value_of (exchange s) = scalar s

unfoldable pub exchanged_of : Ty → Ty
exchanged_of (scalar s) = scalar s
exchanged_of (vec n s) = vec n s
exchanged_of (mat c r s) = mat c r s
exchanged_of (array k t) = array k t
exchanged_of (runtime t) = runtime t
exchanged_of (atomic s) = atomic s
exchanged_of (ptr space access t) = ptr space access t
exchanged_of (ref space access t) = ref space access t
exchanged_of (frexp t) = frexp t
exchanged_of (modf t) = modf t
exchanged_of (exchange s) = scalar bool

-- an atomic stands in it, at any depth
unfoldable pub holds_atomic : Ty → Bool
holds_atomic (scalar s) = false
holds_atomic (vec n s) = false
holds_atomic (mat c r s) = false
holds_atomic (array k t) = holds_atomic t
holds_atomic (runtime t) = holds_atomic t
holds_atomic (atomic s) = true
holds_atomic (ptr space access t) = holds_atomic t
holds_atomic (ref space access t) = holds_atomic t
holds_atomic (frexp t) = holds_atomic t
holds_atomic (modf t) = holds_atomic t
holds_atomic (exchange s) = false
