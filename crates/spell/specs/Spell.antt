-- Document 01, "Spelling": "A type is spelled as a head, then its arguments, each spelled by the rule for types"; "no spaces". Assumes nothing.
use Rattle.std.specs.Prelude.{ℕ, cond, List, [], ◌∷◌, ◌++◌, eqb, get_or}
use Prim.Native.String.{String}
use Rattle.text.specs.Text.{ascii, decimal}
use Rattle.conv.specs.Types.{Ty, abstract_float}
use Rattle.conv.specs.Types.Ty.{scalar, vec, mat, array, runtime, atomic, ptr, ref, frexp, modf, exchange}

-- "Scalars, spaces and accesses are spelled as named above", each by its number
abbrev pub scalar_names : List String
scalar_names = "bool" ∷ "AbstractInt" ∷ "AbstractFloat" ∷ "i32" ∷ "u32" ∷ "f32" ∷ "f16" ∷ []

abbrev pub space_names : List String
space_names = "function" ∷ "private" ∷ "workgroup" ∷ "uniform" ∷ "storage" ∷ "handle" ∷ []

abbrev pub access_names : List String
access_names = "read" ∷ "write" ∷ "read_write" ∷ []

-- the name at a number of such a list
unfoldable pub named : List String → ℕ → List ℕ
named names k = ascii (get_or names k "")

-- "result types by their names alone", "as `__modf_result_vec3_f16`": the name tells the type of `fract`, and calls AbstractFloat `abstract`
unfoldable pub fract_scalar : ℕ → List ℕ
fract_scalar s = cond (eqb s abstract_float) (ascii "abstract") (named scalar_names s)

unfoldable pub fract_name : Ty → List ℕ
fract_name (scalar s) = fract_scalar s
fract_name (vec n s) = ascii "vec" ++ decimal n ++ ascii "_" ++ fract_scalar s
fract_name (mat c r s) = []
fract_name (array k t) = []
fract_name (runtime t) = []
fract_name (atomic s) = []
fract_name (ptr space access t) = []
fract_name (ref space access t) = []
fract_name (frexp t) = []
fract_name (modf t) = []
fract_name (exchange s) = []

-- the spelling of a type. The last is document 02's, K5: "spelled `__atomic_compare_exchange_result<i32>` (or u32)"
unfoldable pub spelling : Ty → List ℕ
spelling (scalar s) = named scalar_names s
spelling (vec n s) = ascii "vec" ++ decimal n ++ ascii "<" ++ named scalar_names s ++ ascii ">"
spelling (mat c r s) = ascii "mat" ++ decimal c ++ ascii "x" ++ decimal r ++ ascii "<" ++ named scalar_names s ++ ascii ">"
spelling (array k t) = ascii "array<" ++ spelling t ++ ascii "," ++ decimal k ++ ascii ">"
spelling (runtime t) = ascii "array<" ++ spelling t ++ ascii ">"
spelling (atomic s) = ascii "atomic<" ++ named scalar_names s ++ ascii ">"
spelling (ptr space access t) = ascii "ptr<" ++ named space_names space ++ ascii "," ++ spelling t ++ ascii "," ++ named access_names access ++ ascii ">"
spelling (ref space access t) = ascii "ref<" ++ named space_names space ++ ascii "," ++ spelling t ++ ascii "," ++ named access_names access ++ ascii ">"
spelling (frexp t) = ascii "__frexp_result_" ++ fract_name t
spelling (modf t) = ascii "__modf_result_" ++ fract_name t
spelling (exchange s) = ascii "__atomic_compare_exchange_result<" ++ named scalar_names s ++ ascii ">"
