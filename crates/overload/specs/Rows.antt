-- The ruled operators and builtins of document 01, a row each, as data: parameters and result by pattern, the sizes, the set of T. Assumes nothing.
use Rattle.std.specs.Prelude.{◌≡◌, ℕ, zero, suc, Bool, cond, not, ◌&&◌, ◌||◌, T, ◌≢◌, ◌⊎◌, List, [], ◌∷◌, ◌++◌, map, length, ◌==◌, slice_index_or}
use Rattle.conv.specs.Types.{Ty, bool, abstract_int, abstract_float, i32, u32, f32, f16, exponent, workgroup, storage, handle, read, read_write, is_runtime, holds_atomic, formed}
use Rattle.conv.specs.Types.Ty.{scalar, vec, mat, array, runtime, atomic, ptr, ref, frexp, modf, exchange}
use Rattle.conv.specs.Rank.{Shape, columns_of, rows_of, tag_of, is_pointer, first_of, second_of, element_of, made}
use Rattle.conv.specs.Rank.Shape.{one, vector, matrix}
use Rattle.overload.specs.Overload.{Overload, fits, listed, Judged, judge}
use Rattle.overload.specs.Marks.{remaining_in}
use Rattle.overload.specs.Overload.Judged.{gives, none_fits}

-- THE SIZE of an overload: a scalar, a vector's width, a matrix's columns and rows; for a product of matrices the shape of the result, and the inner count

pub record Size : Type 0 where
  pub shape : Shape
  pub inner : ℕ

abbrev pub size : Shape → Size
size s = record { shape = s; inner = 0 }

abbrev pub at_widths : (ℕ → List Size) → List Size
at_widths f = f 2 ++ (f 3 ++ f 4)

abbrev pub scalars : List Size
scalars = size one ∷ []

abbrev pub width : ℕ → List Size
width n = size (vector n) ∷ []

abbrev pub vectors : List Size
vectors = at_widths width

-- "wide" means scalar or vector
abbrev pub wides : List Size
wides = scalars ++ vectors

abbrev pub matrices : List Size
matrices = at_widths (λ c. at_widths (λ r. size (matrix c r) ∷ []))

-- the same, by rows first
abbrev pub matrices_by_rows : List Size
matrices_by_rows = at_widths (λ r. at_widths (λ c. size (matrix c r) ∷ []))

abbrev pub squares : List Size
squares = at_widths (λ n. size (matrix n n) ∷ [])

-- matKxR by matCxK, in the order of K, R, C
abbrev pub products : List Size
products = at_widths (λ k. at_widths (λ r. at_widths (λ c. record { shape = matrix c r; inner = k } ∷ [])))

-- A PATTERN: a shape at the size, and its component

pub data Form : Type 0 where
  -- of the size; a scalar
  sized single : Form
  -- a vector as long as the matrix has columns; as it has rows
  vec_c vec_r : Form
  -- the left and the right side of a product
  left right : Form
  -- columns and rows exchanged
  turned : Form

unfoldable pub form_at : Form → Size → Shape
form_at sized z = z.shape
form_at single z = one
form_at vec_c z = vector (columns_of z.shape)
form_at vec_r z = vector (rows_of z.shape)
form_at left z = matrix z.inner (rows_of z.shape)
form_at right z = matrix (columns_of z.shape) z.inner
form_at turned z = matrix (rows_of z.shape) (columns_of z.shape)

-- the component: T; the second choice I; what follows T as `exp` follows `fract`: AbstractInt at an abstract T, else i32; a fixed scalar
pub data Component : Type 0 where
  of_t of_i exp_t : Component
  just : ℕ → Component

unfoldable pub component_at : Component → ℕ → ℕ → ℕ
component_at of_t t i = t
component_at of_i t i = i
component_at exp_t t i = exponent t
component_at (just s) t i = s

pub record Pattern : Type 0 where
  pub form : Form
  pub of : Component

-- the type of a pattern at a size, a T and an I
abbrev pub pattern_ty : Size → ℕ → ℕ → Pattern → Ty
pattern_ty z t i p = made (form_at p.form z) (component_at p.of t i)

-- a result is a type by pattern, or the result type of frexp or of modf over one
pub data Wrap : Type 0 where
  bare in_frexp in_modf : Wrap

unfoldable pub wrapped : Wrap → Ty → Ty
wrapped bare t = t
wrapped in_frexp t = frexp t
wrapped in_modf t = modf t

-- A FAMILY of overloads: one for each T of the set, each size and each I of the second set

pub record Family : Type 0 where
  pub set : List ℕ
  pub second : List ℕ
  pub sizes : List Size
  pub params : List Pattern
  pub wrap : Wrap
  pub result : Pattern

abbrev pub overload : Family → ℕ → ℕ → Size → Overload
overload f t i z = record { params = map (pattern_ty z t i) f.params; result = wrapped f.wrap (pattern_ty z t i f.result) }

-- in the order of T's number, then of the size, then of I's number

unfoldable pub over_second : Family → ℕ → Size → List ℕ → List Overload
over_second f t z [] = []
over_second f t z (i ∷ is) = overload f t i z ∷ over_second f t z is

unfoldable pub at_sizes : Family → ℕ → List Size → List Overload
at_sizes f t [] = []
at_sizes f t (z ∷ zs) = over_second f t z f.second ++ at_sizes f t zs

unfoldable pub over_set : Family → List ℕ → List Overload
over_set f [] = []
over_set f (t ∷ ts) = at_sizes f t f.sizes ++ over_set f ts

abbrev pub of_family : Family → List Overload
of_family f = over_set f f.set

unfoldable pub of_families : List Family → List Overload
of_families [] = []
of_families (f ∷ fs) = of_family f ++ of_families fs

-- SETS OF T, in the order of their numbers

abbrev pub float : List ℕ
float = abstract_float ∷ f32 ∷ f16 ∷ []

abbrev pub integer : List ℕ
integer = abstract_int ∷ i32 ∷ u32 ∷ []

abbrev pub numeric : List ℕ
numeric = abstract_int ∷ abstract_float ∷ i32 ∷ u32 ∷ f32 ∷ f16 ∷ []

-- numeric but u32
abbrev pub signed : List ℕ
signed = abstract_int ∷ abstract_float ∷ i32 ∷ f32 ∷ f16 ∷ []

-- i32 and u32 alone
abbrev pub bits : List ℕ
bits = i32 ∷ u32 ∷ []

-- concrete numeric
abbrev pub concrete : List ℕ
concrete = i32 ∷ u32 ∷ f32 ∷ f16 ∷ []

abbrev pub only : ℕ → List ℕ
only s = s ∷ []

-- PATTERNS BY NAME: `N` of the size and `E` the component, of T; `I` the scalar of the second choice; `Nexp` of the size, of what follows T; `Nof s` and `Eof s` of the scalar s

abbrev pub N : Pattern
N = record { form = sized; of = of_t }

abbrev pub E : Pattern
E = record { form = single; of = of_t }

abbrev pub I : Pattern
I = record { form = single; of = of_i }

abbrev pub Nexp : Pattern
Nexp = record { form = sized; of = exp_t }

abbrev pub Nof : ℕ → Pattern
Nof s = record { form = sized; of = just s }

abbrev pub Eof : ℕ → Pattern
Eof s = record { form = single; of = just s }

abbrev pub vec_of_c : Pattern
vec_of_c = record { form = vec_c; of = of_t }

abbrev pub vec_of_r : Pattern
vec_of_r = record { form = vec_r; of = of_t }

abbrev pub mat_kr : Pattern
mat_kr = record { form = left; of = of_t }

abbrev pub mat_ck : Pattern
mat_ck = record { form = right; of = of_t }

abbrev pub transposed : Pattern
transposed = record { form = turned; of = of_t }

-- a family without a second choice has one I, which no pattern of it asks
abbrev pub no_choice : List ℕ
no_choice = only bool

abbrev pub family : List ℕ → List Size → List Pattern → Pattern → Family
family set sizes params result = record { set = set; second = no_choice; sizes = sizes; params = params; wrap = bare; result = result }

-- with a second choice, which one at least of its patterns asks
abbrev pub choosing : List ℕ → List ℕ → List Size → List Pattern → Pattern → Family
choosing set second sizes params result = record { set = set; second = second; sizes = sizes; params = params; wrap = bare; result = result }

abbrev pub result_type : Wrap → Family
result_type w = record { set = float; second = no_choice; sizes = wides; params = N ∷ []; wrap = w; result = N }

-- A ROW: the families of an operator, or of builtins that share them, and the number by which the code knows it. Its families stand in the order of document 01's row

pub record Row : Type 0 where
  pub number : ℕ
  pub families : List Family

abbrev pub row : ℕ → List Family → Row
row k fs = record { number = k; families = fs }

-- THE ROWS of operators

-- `!`
abbrev pub negating_bool : Row
negating_bool = row 0 (family (only bool) wides (N ∷ []) N ∷ [])

-- unary `-`; sign
abbrev pub negating : Row
negating = row 1 (family signed wides (N ∷ []) N ∷ [])

-- `~`
abbrev pub complementing : Row
complementing = row 2 (family integer wides (N ∷ []) N ∷ [])

-- `||` `&&`
abbrev pub logical : Row
logical = row 3 (family (only bool) scalars (N ∷ N ∷ []) N ∷ [])

-- `+` `-` `*` `/` `%`: two equal wide numeric types; a vector and its component, either side first
abbrev pub arithmetic : List Family
arithmetic =
    family numeric wides (N ∷ N ∷ []) N
    ∷ family numeric vectors (N ∷ E ∷ []) N
    ∷ family numeric vectors (E ∷ N ∷ []) N
    ∷ []

-- `+` `-`: also equal matrices
abbrev pub additive : Row
additive = row 4 (arithmetic ++ (family float matrices (N ∷ N ∷ []) N ∷ []))

-- `*`: matrix and component either way; matCxR by vec_c gives vec_r; vec_r by matCxR gives vec_c, listed by its left parameter first; matKxR by matCxK gives matCxR
abbrev pub multiplicative : Row
multiplicative =
    row 5
    (arithmetic
    ++ (family float matrices (N ∷ E ∷ []) N
    ∷ family float matrices (E ∷ N ∷ []) N
    ∷ family float matrices (N ∷ vec_of_c ∷ []) vec_of_r
    ∷ family float matrices_by_rows (vec_of_r ∷ N ∷ []) vec_of_c
    ∷ family float products (mat_kr ∷ mat_ck ∷ []) N
    ∷ []))

-- `/` `%`
abbrev pub dividing : Row
dividing = row 6 arithmetic

-- `==` `!=`
abbrev pub equality : Row
equality = row 7 (family (bool ∷ numeric) wides (N ∷ N ∷ []) (Nof bool) ∷ [])

-- `<` `<=` `>` `>=`
abbrev pub ordering : Row
ordering = row 8 (family numeric wides (N ∷ N ∷ []) (Nof bool) ∷ [])

-- `|` `&`: wide integer or wide bool
abbrev pub bitwise : Row
bitwise = row 9 (family integer wides (N ∷ N ∷ []) N ∷ family (only bool) wides (N ∷ N ∷ []) N ∷ [])

-- `^`
abbrev pub exclusive : Row
exclusive = row 10 (family integer wides (N ∷ N ∷ []) N ∷ [])

-- `<<` `>>`
abbrev pub shifting : Row
shifting = row 11 (family integer wides (N ∷ Nof u32 ∷ []) N ∷ [])

-- THE ROWS of builtins: which name has which row stands in `names/specs/Names.antt`

abbrev pub one_float : Row
one_float = row 12 (family float wides (N ∷ []) N ∷ [])

abbrev pub two_floats : Row
two_floats = row 13 (family float wides (N ∷ N ∷ []) N ∷ [])

abbrev pub three_floats : Row
three_floats = row 14 (family float wides (N ∷ N ∷ N ∷ []) N ∷ [])

abbrev pub mixing : Row
mixing = row 15 (family float wides (N ∷ N ∷ N ∷ []) N ∷ family float vectors (N ∷ N ∷ E ∷ []) N ∷ [])

abbrev pub one_numeric : Row
one_numeric = row 16 (family numeric wides (N ∷ []) N ∷ [])

abbrev pub two_numerics : Row
two_numerics = row 17 (family numeric wides (N ∷ N ∷ []) N ∷ [])

abbrev pub three_numerics : Row
three_numerics = row 18 (family numeric wides (N ∷ N ∷ N ∷ []) N ∷ [])

abbrev pub one_bits : Row
one_bits = row 19 (family bits wides (N ∷ []) N ∷ [])

abbrev pub extracting : Row
extracting = row 20 (family bits wides (N ∷ Eof u32 ∷ Eof u32 ∷ []) N ∷ [])

abbrev pub inserting : Row
inserting = row 21 (family bits wides (N ∷ N ∷ Eof u32 ∷ Eof u32 ∷ []) N ∷ [])

abbrev pub measuring : Row
measuring = row 22 (family float wides (N ∷ []) E ∷ [])

abbrev pub distancing : Row
distancing = row 23 (family float wides (N ∷ N ∷ []) E ∷ [])

abbrev pub dotting : Row
dotting = row 24 (family numeric vectors (N ∷ N ∷ []) E ∷ [])

abbrev pub one_float_vector : Row
one_float_vector = row 25 (family float vectors (N ∷ []) N ∷ [])

abbrev pub two_float_vectors : Row
two_float_vectors = row 26 (family float vectors (N ∷ N ∷ []) N ∷ [])

abbrev pub three_float_vectors : Row
three_float_vectors = row 27 (family float vectors (N ∷ N ∷ N ∷ []) N ∷ [])

abbrev pub refracting : Row
refracting = row 28 (family float vectors (N ∷ N ∷ E ∷ []) N ∷ [])

abbrev pub crossing : Row
crossing = row 29 (family float (width 3) (N ∷ N ∷ []) N ∷ [])

abbrev pub square_matrix : Row
square_matrix = row 30 (family float squares (N ∷ []) E ∷ [])

abbrev pub transposing : Row
transposing = row 31 (family float matrices (N ∷ []) transposed ∷ [])

abbrev pub one_f32 : Row
one_f32 = row 32 (family (only f32) wides (N ∷ []) N ∷ [])

abbrev pub frexp_of : Row
frexp_of = row 33 (result_type in_frexp ∷ [])

abbrev pub modf_of : Row
modf_of = row 34 (result_type in_modf ∷ [])

abbrev pub packing4_f32 : Row
packing4_f32 = row 35 (family (only f32) (width 4) (N ∷ []) (Eof u32) ∷ [])

abbrev pub packing4_i32 : Row
packing4_i32 = row 36 (family (only i32) (width 4) (N ∷ []) (Eof u32) ∷ [])

abbrev pub packing4_u32 : Row
packing4_u32 = row 37 (family (only u32) (width 4) (N ∷ []) (Eof u32) ∷ [])

abbrev pub packing2_f32 : Row
packing2_f32 = row 38 (family (only f32) (width 2) (N ∷ []) (Eof u32) ∷ [])

abbrev pub unpacking4_f32 : Row
unpacking4_f32 = row 39 (family (only f32) (width 4) (Eof u32 ∷ []) N ∷ [])

abbrev pub unpacking4_i32 : Row
unpacking4_i32 = row 40 (family (only i32) (width 4) (Eof u32 ∷ []) N ∷ [])

abbrev pub unpacking4_u32 : Row
unpacking4_u32 = row 41 (family (only u32) (width 4) (Eof u32 ∷ []) N ∷ [])

abbrev pub unpacking2_f32 : Row
unpacking2_f32 = row 42 (family (only f32) (width 2) (Eof u32 ∷ []) N ∷ [])

abbrev pub packed_dot_u32 : Row
packed_dot_u32 = row 43 (family (only u32) scalars (N ∷ N ∷ []) (Eof u32) ∷ [])

abbrev pub packed_dot_i32 : Row
packed_dot_i32 = row 44 (family (only u32) scalars (N ∷ N ∷ []) (Eof i32) ∷ [])

abbrev pub one_bool : Row
one_bool = row 45 (family (only bool) wides (N ∷ []) (Eof bool) ∷ [])

abbrev pub selecting : Row
selecting =
    row 46
    (family (bool ∷ numeric) wides (N ∷ N ∷ Eof bool ∷ []) N
    ∷ family (bool ∷ numeric) vectors (N ∷ N ∷ Nof bool ∷ []) N
    ∷ [])

-- of subgroups and quads, by WGSL's "Subgroup Built-in Functions" and "Quad Operations": wide concrete numeric T to T

abbrev pub one_concrete : Row
one_concrete = row 47 (family concrete wides (N ∷ []) N ∷ [])

-- bool to bool
abbrev pub voting : Row
voting = row 48 (family (only bool) scalars (N ∷ []) N ∷ [])

-- bool to vec4 of u32
abbrev pub balloting : Row
balloting = row 49 (family (only u32) (width 4) (Eof bool ∷ []) N ∷ [])

-- nothing to bool
abbrev pub electing : Row
electing = row 50 (family (only bool) scalars [] N ∷ [])

-- T, and the lane as i32 or u32
abbrev pub of_lane : Row
of_lane = row 51 (choosing concrete bits wides (N ∷ I ∷ []) N ∷ [])

-- T, and how far its lane is, as u32
abbrev pub shuffling : Row
shuffling = row 52 (family concrete wides (N ∷ Eof u32 ∷ []) N ∷ [])

-- ldexp (document 02, K6): "T, wide float, and I, AbstractInt or i32 of T's width, where I is concrete exactly when T is, and gives T". So I follows T, as `exp` follows `fract`
abbrev pub scaling : Row
scaling = row 53 (family float wides (N ∷ Nexp ∷ []) N ∷ [])

-- all rows, by their numbers
unfoldable pub rows : List Row
rows =
    negating_bool ∷ negating ∷ complementing ∷ logical ∷ additive ∷ multiplicative ∷ dividing ∷ equality ∷ ordering ∷ bitwise ∷ exclusive ∷ shifting
    ∷ one_float ∷ two_floats ∷ three_floats ∷ mixing ∷ one_numeric ∷ two_numerics ∷ three_numerics ∷ one_bits ∷ extracting ∷ inserting
    ∷ measuring ∷ distancing ∷ dotting ∷ one_float_vector ∷ two_float_vectors ∷ three_float_vectors ∷ refracting ∷ crossing ∷ square_matrix ∷ transposing
    ∷ one_f32 ∷ frexp_of ∷ modf_of ∷ packing4_f32 ∷ packing4_i32 ∷ packing4_u32 ∷ packing2_f32 ∷ unpacking4_f32 ∷ unpacking4_i32 ∷ unpacking4_u32 ∷ unpacking2_f32
    ∷ packed_dot_u32 ∷ packed_dot_i32 ∷ one_bool ∷ selecting
    ∷ one_concrete ∷ voting ∷ balloting ∷ electing ∷ of_lane ∷ shuffling
    ∷ scaling
    ∷ []

-- the row of a number; a number that no row has has no overload
abbrev pub no_row : Row
no_row = row 255 []

unfoldable pub row_at : ℕ → Row
row_at k = slice_index_or rows k no_row

-- the overloads of a row
abbrev pub overloads_of : Row → List Overload
overloads_of r = of_families r.families

abbrev pub of_row : Row → Overload → Type 0
of_row r = listed (overloads_of r)

-- how many parameters the overloads of a row have: as many as those of its first family, since all have one count (`one-count` in `proofs/Counts.antt`)
unfoldable pub head_count : List Family → ℕ
head_count [] = 0
head_count (f ∷ fs) = length f.params

abbrev pub operand_count : Row → ℕ
operand_count r = head_count r.families

-- UNARY `&` AND `*`: described, not listed. One overload for each reference type, not in space handle, to the pointer; one for each pointer type, to the reference

abbrev pub address_of : Overload → Type 0
address_of o =
    (space access : ℕ) × (t : Ty) × (space ≢ handle) × T (formed (ref space access t)) × (o ≡ record { params = ref space access t ∷ []; result = ptr space access t })

abbrev pub indirection_of : Overload → Type 0
indirection_of o =
    (space access : ℕ) × (t : Ty) × T (formed (ptr space access t)) × (o ≡ record { params = ptr space access t ∷ []; result = ref space access t })

-- CALLS ON ATOMICS (document 02, K5): described too. "Take a pointer to an atomic, in space storage or workgroup with read_write access, and value operands that convert to its
-- component": one overload for each such pointer, with value parameters of the component

abbrev pub to_atomic : ℕ → ℕ → Ty
to_atomic space s = ptr space read_write (atomic s)

unfoldable pub values : ℕ → ℕ → List Ty
values zero s = []
values (suc k) s = scalar s ∷ values k s

-- with k values, and what it gives for a component
abbrev pub atomic_of : ℕ → (ℕ → Ty) → Overload → Type 0
atomic_of k out o =
    (space s : ℕ) × ((space ≡ storage) ⊎ (space ≡ workgroup)) × T (formed (to_atomic space s))
    × (o ≡ record { params = to_atomic space s ∷ values k s; result = out s })

-- workgroupUniformLoad: "takes a workgroup pointer with read_write access and gives the component of an atomic, else the element, which is no kind 10 and holds no atomic"

abbrev pub is_atomic : Ty → Bool
is_atomic t = tag_of t == 5

abbrev pub loadable : Ty → Bool
loadable t = is_atomic t || (not (is_runtime t) && not (holds_atomic t))

-- the component of an atomic is its first number
abbrev pub loaded : Ty → Ty
loaded t = cond (is_atomic t) (scalar (first_of t)) t

abbrev pub uniform_load_of : Overload → Type 0
uniform_load_of o =
    (t : Ty) × T (loadable t) × T (formed (ptr workgroup read_write t)) × (o ≡ record { params = ptr workgroup read_write t ∷ []; result = loaded t })

-- ARRAYLENGTH (document 02, K6): "takes only a pointer in space storage, with read or read_write access, to an array without count"; it gives u32

abbrev pub to_runtime : ℕ → Ty → Ty
to_runtime access t = ptr storage access (runtime t)

abbrev pub array_length_of : Overload → Type 0
array_length_of o =
    (access : ℕ) × (t : Ty) × ((access ≡ read) ⊎ (access ≡ read_write)) × T (formed (to_runtime access t))
    × (o ≡ record { params = to_runtime access t ∷ []; result = scalar u32 })

-- A RULING says which overloads a call has: those of a row, or those that a rule describes. On atomics: with so many values, giving the component; with two values, giving
-- the result of a compare
pub data Ruling : Type 0 where
  by_row : Row → Ruling
  address indirection : Ruling
  on_atomic : ℕ → Ruling
  comparing uniform_load array_length : Ruling

unfoldable pub overloads_by : Ruling → Overload → Type 0
overloads_by (by_row r) = of_row r
overloads_by address = address_of
overloads_by indirection = indirection_of
overloads_by (on_atomic k) = atomic_of k scalar
overloads_by comparing = atomic_of 2 exchange
overloads_by uniform_load = uniform_load_of
overloads_by array_length = array_length_of

-- HOW A CALL IS JUDGED, by the types and the marks of its operands: a listed row by those of its overloads that remain; a described rule by itself, since none of its
-- overloads is ever dropped

abbrev pub judge_row : Row → List Ty → List Bool → Judged
judge_row r ts ms = judge (remaining_in ms (overloads_of r)) ts

unfoldable pub judge_address : Ty → Judged
judge_address (ref space access t) = cond (space == handle) none_fits (gives (ptr space access t))
judge_address (ptr space access t) = none_fits
judge_address (scalar s) = none_fits
judge_address (vec n s) = none_fits
judge_address (mat c r s) = none_fits
judge_address (array k t) = none_fits
judge_address (runtime t) = none_fits
judge_address (atomic s) = none_fits
judge_address (frexp t) = none_fits
judge_address (modf t) = none_fits
judge_address (exchange s) = none_fits

unfoldable pub judge_indirection : Ty → Judged
judge_indirection (ptr space access t) = gives (ref space access t)
judge_indirection (ref space access t) = none_fits
judge_indirection (scalar s) = none_fits
judge_indirection (vec n s) = none_fits
judge_indirection (mat c r s) = none_fits
judge_indirection (array k t) = none_fits
judge_indirection (runtime t) = none_fits
judge_indirection (atomic s) = none_fits
judge_indirection (frexp t) = none_fits
judge_indirection (modf t) = none_fits
judge_indirection (exchange s) = none_fits

-- a rule for one operand
unfoldable pub alone : (Ty → Judged) → List Ty → Judged
alone j [] = none_fits
alone j (t ∷ []) = j t
alone j (t ∷ u ∷ us) = none_fits

-- a pointer that a call on atomics takes, and the component of its atomic
abbrev pub takes_atomic : Ty → Bool
takes_atomic x = is_pointer x && (first_of x == storage || first_of x == workgroup) && second_of x == read_write && is_atomic (element_of x)

abbrev pub atomic_in : Ty → ℕ
atomic_in x = first_of (element_of x)

unfoldable pub judge_atomic : ℕ → (ℕ → Ty) → List Ty → Judged
judge_atomic k out [] = none_fits
judge_atomic k out (x ∷ xs) = cond (takes_atomic x && fits (values k (atomic_in x)) xs) (gives (out (atomic_in x))) none_fits

-- and one that workgroupUniformLoad takes
abbrev pub takes_load : Ty → Bool
takes_load x = is_pointer x && first_of x == workgroup && second_of x == read_write && loadable (element_of x)

unfoldable pub judge_load : Ty → Judged
judge_load x = cond (takes_load x) (gives (loaded (element_of x))) none_fits

-- and one that arrayLength takes
abbrev pub takes_length : Ty → Bool
takes_length x = is_pointer x && first_of x == storage && (second_of x == read || second_of x == read_write) && is_runtime (element_of x)

unfoldable pub judge_length : Ty → Judged
judge_length x = cond (takes_length x) (gives (scalar u32)) none_fits

unfoldable pub judge_by : Ruling → List Ty → List Bool → Judged
judge_by (by_row r) ts ms = judge_row r ts ms
judge_by address ts ms = alone judge_address ts
judge_by indirection ts ms = alone judge_indirection ts
judge_by (on_atomic k) ts ms = judge_atomic k scalar ts
judge_by comparing ts ms = judge_atomic 2 exchange ts
judge_by uniform_load ts ms = alone judge_load ts
judge_by array_length ts ms = alone judge_length ts

-- the row of a ruling is one of `rows`, and stands there at its number
unfoldable pub Known : Ruling → Type 0
Known (by_row r) = row_at r.number ≡ r
Known address = Unit {0}
Known indirection = Unit {0}
Known (on_atomic k) = Unit {0}
Known comparing = Unit {0}
Known uniform_load = Unit {0}
Known array_length = Unit {0}
