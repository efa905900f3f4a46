-- Document 01, "Template types": the arguments of a list, and the count of an array. Assumes nothing.
use Rattle.std.specs.Prelude.{ℕ, ◌%◌, Bool, true, false, ◌&&◌, cond, List, [], ◌∷◌, length, eqb, leb, ltb, ℤ, pos, negsuc, Option, Some, None, Result, Ok, Err}
use Rattle.tplt.specs.declared.param.TpltParam.{TpltParam}
use Rattle.tplt.specs.declared.param.TpltParam.TheVariants.{Typed, NoType, AbstractInt, I32, U32, Other}
use Rattle.tplt.specs.declared.param.Arguments.{Arguments}
use Rattle.tplt.specs.declared.param.Arguments.TheVariants.{One, Two}
use Rattle.answer.specs.declared.Reason.{Reason}
use Rattle.answer.specs.declared.Reason.TheVariants.{Count}

-- tag 0: a type's number, which is a type of the table where it is below n
unfoldable pub type_param : ℕ → ℤ → TpltParam
type_param n (pos k) = cond (ltb k n) (Typed (record { 0 = k })) NoType
type_param n (negsuc k) = NoType

-- tag 2: a literal of i32; one outside of it is another literal
unfoldable pub i32_param : ℤ → TpltParam
i32_param (pos k) = cond (leb k 2147483647) (I32 (pos k)) Other
i32_param (negsuc k) = cond (leb k 2147483647) (I32 (negsuc k)) Other

-- tag 3: a literal of u32; one outside of it is another literal
unfoldable pub u32_param : ℤ → TpltParam
u32_param (pos k) = cond (leb k 4294967295) (U32 k) Other
u32_param (negsuc k) = Other

-- an argument is a tag and a value: 0 a type, 1 a literal of AbstractInt, 2 of i32, 3 of u32, any other tag another literal
unfoldable pub param_of : ℕ → ℤ → ℤ → TpltParam
param_of n (pos tag) value =
    cond (eqb tag 0) (type_param n value)
    (cond (eqb tag 1) (AbstractInt value)
    (cond (eqb tag 2) (i32_param value)
    (cond (eqb tag 3) (u32_param value) Other)))
param_of n (negsuc tag) value = Other

-- the arguments of a list of tags and values; a tag without a value is none
unfoldable pub params_of : ℕ → List ℤ → List TpltParam
params_of n [] = []
params_of n (tag ∷ []) = []
params_of n (tag ∷ value ∷ rest) = param_of n tag value ∷ params_of n rest

-- "type number not below n"
abbrev pub is_known : TpltParam → Bool
is_known (Typed t) = true
is_known NoType = false
is_known (AbstractInt k) = true
is_known (I32 k) = true
is_known (U32 k) = true
is_known Other = true

unfoldable pub types_known : List TpltParam → Bool
types_known [] = true
types_known (p ∷ ps) = is_known p && types_known ps

-- a list that can be right: a type alone, or a type and a literal
abbrev pub is_typed : TpltParam → Bool
is_typed (Typed t) = true
is_typed NoType = true
is_typed (AbstractInt k) = false
is_typed (I32 k) = false
is_typed (U32 k) = false
is_typed Other = false

abbrev pub alone : TpltParam → Option Arguments
alone (Typed t) = Some (One t)
alone NoType = None
alone (AbstractInt k) = None
alone (I32 k) = None
alone (U32 k) = None
alone Other = None

abbrev pub before : TpltParam → TpltParam → Option Arguments
before (Typed t) q = Some (Two t q)
before NoType q = None
before (AbstractInt k) q = None
before (I32 k) q = None
before (U32 k) q = None
before Other q = None

abbrev pub paired : TpltParam → TpltParam → Option Arguments
paired p q = cond (is_typed q) None (before p q)

abbrev pub form_of : List TpltParam → Option Arguments
form_of [] = None
form_of (p ∷ []) = alone p
form_of (p ∷ q ∷ []) = paired p q
form_of (p ∷ q ∷ r ∷ ps) = None

-- a tag without a value makes the list wrong
unfoldable pub arguments_of : ℕ → List ℤ → Option Arguments
arguments_of n args = cond (eqb (length args % 2) 0) (form_of (params_of n args)) None

-- "A count of -3 or 0 is refused with 6, as is one above 4,294,967,295 or another literal; 1 and 4,294,967,295 pass"
unfoldable pub count_z : ℤ → Result ℕ Reason
count_z (pos k) = cond (leb 1 k && leb k 4294967295) (Ok k) (Err Count)
count_z (negsuc k) = Err Count

unfoldable pub count_of : TpltParam → Result ℕ Reason
count_of (Typed t) = Err Count
count_of NoType = Err Count
count_of (AbstractInt z) = count_z z
count_of (I32 z) = count_z z
count_of (U32 k) = count_z (pos k)
count_of Other = Err Count
