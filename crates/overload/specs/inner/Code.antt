-- How the code numbers what Rows writes: shapes, operands, sizes, patterns, sets of T, families. Of these only `operand`, `code_of`, `out_of` and `judged_of`
-- stand in promises to the crates above; the rest says what the tables of the code hold. Assumes nothing.
use Rattle.std.specs.Prelude.{◌≡◌, ℕ, ◌+◌, ◌-◌, ◌*◌, ◌/◌, ◌%◌, ◌^◌, ◌<◌, Bool, true, false, cond, not, Option, Some, None, List, [], ◌∷◌, ◌++◌, map, length, get_or, take, ◌==◌, nat_eq, nat_le, nat_lt, slice_index, slice_index_or}
use Rattle.conv.specs.Types.{Ty, is_width, is_abstract, bool, i32, u32, f32}
use Rattle.conv.specs.Types.Ty.{frexp, modf}
use Rattle.conv.specs.Rank.{pick, both, none, rank_of, Shape, form_of, columns_of, rows_of, same_shape, shape_of, component_of, is_reference, made}
use Rattle.conv.specs.Rank.Shape.{one, vector, matrix, other}
use Rattle.overload.specs.Overload.{Overload, or, fits, Judged, judge}
use Rattle.overload.specs.Marks.{any_abstract, sifted}
use Rattle.overload.specs.Overload.Judged.{gives, none_fits}
use Rattle.overload.specs.Rows.{Size, size, scalars, width, vectors, wides, matrices, matrices_by_rows, squares, products, Form, Component, Pattern, Wrap, Family, form_at, component_at, pattern_ty, float, integer, numeric, signed, bits, concrete, only, N, Row, rows, row_at, overloads_of, operand_count}
use Rattle.overload.specs.Rows.Form.{sized, single, vec_c, vec_r, left, right, turned}
use Rattle.overload.specs.Rows.Component.{of_t, of_i, exp_t, just}
use Rattle.overload.specs.Rows.Wrap.{bare, in_frexp, in_modf}
use Rattle.overload.specs.declared.Out.{Out}
use Rattle.overload.specs.declared.Out.TheVariants.{Plain, Frexp, Modf}

-- SHAPES: scalar 0, vec2 to vec4 1 to 3, mat2x2 to mat4x4 4 to 12, any other type from 13 on

unfoldable pub shape_of_no : ℕ → Shape
shape_of_no k =
    cond (k == 0) one (cond (nat_lt k 4) (vector (k + 1)) (cond (nat_lt k 13) (matrix ((k - 4) / 3 + 2) ((k - 4) % 3 + 2)) other))

unfoldable pub shape_no : Shape → ℕ
shape_no s =
    pick (form_of s == 0) 0
    (pick (both (form_of s == 1) (is_width (rows_of s))) (rows_of s - 1)
    (pick (both (form_of s == 2) (both (is_width (columns_of s)) (is_width (rows_of s)))) (3 * columns_of s + rows_of s - 4) none))

-- OPERANDS: 7 times the shape, plus the component: a plain number as document 01 has it, and on for matrices. From 91 on: a type of another shape
abbrev pub operand : ℕ → Ty
operand x = made (shape_of_no (x / 7)) (x % 7)

-- the number of a type: of another shape 98 for a reference, 91 for any other
unfoldable pub code_of : Ty → ℕ
code_of t = pick (nat_lt (shape_no (shape_of t)) 13) (7 * shape_no (shape_of t) + component_of t) (pick (is_reference t) 98 91)

-- SIZES: a shape's number; from 14 on the products of matrices, by the inner count, rows and columns

unfoldable pub size_of_no : ℕ → Size
size_of_no n =
    cond (nat_lt n 14) (size (shape_of_no n)) (record { shape = matrix ((n - 14) % 3 + 2) ((n - 14) / 3 % 3 + 2); inner = (n - 14) / 9 + 2 })

unfoldable pub size_no : Size → ℕ
size_no z = pick (z.inner == 0) (shape_no z.shape) (14 + 9 * (z.inner - 2) + 3 * (rows_of z.shape - 2) + (columns_of z.shape - 2))

unfoldable pub same_size : Size → Size → Bool
same_size a b = both (a.inner == b.inner) (same_shape a.shape b.shape)

unfoldable pub mem_size : Size → List Size → Bool
mem_size z [] = false
mem_size z (y ∷ ys) = or (same_size z y) (mem_size z ys)

-- the lists of sizes that families have, by number. Where no operand gives the size the list has one, and that size's number is the list's
abbrev pub size_lists : List (List Size)
size_lists =
    scalars ∷ width 2 ∷ width 3 ∷ width 4 ∷ vectors ∷ wides ∷ matrices ∷ matrices_by_rows ∷ squares ∷ products ∷ []

abbrev pub sizes_of : ℕ → List Size
sizes_of k = slice_index_or size_lists k []

-- PATTERNS: the number of the form, and that of the component, which is a scalar's, 7 for I, 8 for what follows T, 9 for T

unfoldable pub form_no : Form → ℕ
form_no sized = 0
form_no single = 1
form_no vec_c = 2
form_no vec_r = 3
form_no left = 4
form_no right = 5
form_no turned = 6

unfoldable pub form_of_no : ℕ → Form
form_of_no k = slice_index_or (sized ∷ single ∷ vec_c ∷ vec_r ∷ left ∷ right ∷ turned ∷ []) k sized

unfoldable pub component_no : Component → ℕ
component_no of_t = 9
component_no of_i = 7
component_no exp_t = 8
component_no (just s) = s

unfoldable pub component_of_no : ℕ → Component
component_of_no k = cond (k == 9) of_t (cond (k == 7) of_i (cond (k == 8) exp_t (just k)))

abbrev pub pattern_of : ℕ → ℕ → Pattern
pattern_of form of = record { form = form_of_no form; of = component_of_no of }

unfoldable pub wrap_no : Wrap → ℕ
wrap_no bare = 0
wrap_no in_frexp = 1
wrap_no in_modf = 2

-- the shape that a form asks at a size
unfoldable pub asked_of : ℕ → ℕ → ℕ
asked_of form n = shape_no (form_at (form_of_no form) (size_of_no n))

-- SETS as numbers, a bit for each member: of scalars, their places in the order of preference; of sizes, their numbers

unfoldable pub bit : ℕ → ℕ → Bool
bit w k = w / 2 ^ k % 2 == 1

-- bool, AbstractInt, i32, u32, AbstractFloat, f32, f16
abbrev pub preference : List ℕ
preference = 0 ∷ 1 ∷ 3 ∷ 4 ∷ 2 ∷ 5 ∷ 6 ∷ []

-- the place of a scalar in it
abbrev pub place_of_scalar : ℕ → ℕ
place_of_scalar s = slice_index_or (0 ∷ 1 ∷ 4 ∷ 2 ∷ 3 ∷ 5 ∷ 6 ∷ []) s 7

unfoldable pub has : ℕ → ℕ → Bool
has w s = bit w (place_of_scalar s)

unfoldable pub member : ℕ → List ℕ → Bool
member t [] = false
member t (u ∷ us) = or (t == u) (member t us)

-- the sets that families have, by number
abbrev pub sets : List (List ℕ)
sets = only bool ∷ signed ∷ integer ∷ numeric ∷ float ∷ (bool ∷ numeric) ∷ bits ∷ only f32 ∷ only i32 ∷ only u32 ∷ concrete ∷ []

abbrev pub set_of : ℕ → List ℕ
set_of k = slice_index_or sets k []

-- does a scalar convert to another?
abbrev pub reaches : ℕ → ℕ → Bool
reaches s t = nat_lt (rank_of s t) none

-- the first of a list that passes a test, or 255
unfoldable pub first_with : List ℕ → (ℕ → Bool) → ℕ
first_with [] g = none
first_with (t ∷ ts) g = pick (g t) t (first_with ts g)

-- FAMILIES: those of all rows, one after the other

unfoldable pub joined : List Row → List Family
joined [] = []
joined (r ∷ rs) = r.families ++ joined rs

unfoldable pub families : List Family
families = joined rows

-- where the families of a row begin
unfoldable pub start_of : ℕ → ℕ
start_of row = length (joined (take row rows))

abbrev pub no_family : Family
no_family = record { set = []; second = []; sizes = []; params = []; wrap = bare; result = N }

unfoldable pub family_of : ℕ → Family
family_of f = slice_index_or families f no_family

-- the first and the last of a family's parameters
abbrev pub first_param : Family → Pattern
first_param f = slice_index_or f.params 0 N

abbrev pub last_param : Family → Pattern
last_param f = slice_index_or f.params (length f.params - 1) N

-- the forms of both at a size: 3 times that of the first, plus that of the last
abbrev pub forms_at : Family → Size → ℕ
forms_at f z = 3 * form_of (form_at (first_param f).form z) + form_of (form_at (last_param f).form z)

unfoldable pub any_size : (Size → Bool) → List Size → Bool
any_size g [] = false
any_size g (z ∷ zs) = or (g z) (any_size g zs)

abbrev pub has_forms : ℕ → Family → Bool
has_forms forms f = any_size (λ z. nat_eq (forms_at f z) forms) f.sizes

-- no place in a row
abbrev pub no_place : ℕ
no_place = 15

-- the place of the first family of a row whose first and last parameters have these forms
unfoldable pub place_of : ℕ → List Family → ℕ → ℕ
place_of forms [] i = no_place
place_of forms (f ∷ fs) i = pick (has_forms forms f) i (place_of forms fs (i + 1))

-- a place as the code answers it: nothing where no family has the forms
abbrev pub placed : ℕ → Option ℕ
placed k = cond (k == no_place) None (Some k)

unfoldable pub how_many : ℕ → List Family → ℕ
how_many forms [] = 0
how_many forms (f ∷ fs) = pick (has_forms forms f) 1 0 + how_many forms fs

unfoldable pub twins : ℕ → List Family → Bool
twins forms fs = nat_le 2 (how_many forms fs)

-- two families have the same forms
unfoldable pub shared : List Family → Bool
shared fs =
    or (twins 0 fs) (or (twins 1 fs) (or (twins 2 fs) (or (twins 3 fs) (or (twins 4 fs) (or (twins 5 fs) (or (twins 6 fs) (or (twins 7 fs) (twins 8 fs))))))))

-- up to which place the families of a row are tried in turn: up to the last where two have the same forms, else only the first is
unfoldable pub stop_of : List Family → ℕ
stop_of fs = pick (shared fs) (length fs) 0

-- by which operands a family's size is found: 0 the first, 1 the last, 2 both, as the factors of a product, 3 none
unfoldable pub pivot_no : Family → ℕ
pivot_no f =
    pick (form_no (first_param f).form == form_no sized) 0
    (pick (form_no (last_param f).form == form_no sized) 1 (pick (form_no (first_param f).form == form_no left) 2 3))

-- a family's size at the shapes of its first and last operands; k is the number of its list of sizes
unfoldable pub size_at : ℕ → ℕ → ℕ → ℕ → ℕ
size_at pivot k a b = pick (pivot == 0) a (pick (pivot == 1) b (pick (pivot == 2) (3 * a + (b + 2) / 3) k))

-- a family's digits: the count of its parameters; form and component of four parameters, and of its result; its wrapping; by which operands its size is found
unfoldable pub encode : Family → List ℕ
encode f =
    length f.params
    ∷ form 0
    ∷ component 0
    ∷ form 1
    ∷ component 1
    ∷ form 2
    ∷ component 2
    ∷ form 3
    ∷ component 3
    ∷ form_no f.result.form
    ∷ component_no f.result.of
    ∷ wrap_no f.wrap
    ∷ pivot_no f
    ∷ []
  where
    form : ℕ → ℕ
    form i = form_no (get_or f.params i N).form

    component : ℕ → ℕ
    component i = component_no (get_or f.params i N).of

abbrev pub digit_of : ℕ → ℕ → ℕ
digit_of f i = slice_index (encode (family_of f)) i

-- do the operands xs fit a family at a size, a T and an I?
abbrev pub fits_at : Family → ℕ → ℕ → ℕ → List ℕ → Bool
fits_at f n t i xs = fits (map (pattern_ty (size_of_no n) t i) f.params) (map operand xs)

-- the shapes of the first and the last of the operands, a scalar's where there is none, and the forms of both: 3 times that of the first, plus that of the last
abbrev pub first_x : List ℕ → ℕ
first_x xs = slice_index xs 0

abbrev pub last_x : List ℕ → ℕ
last_x xs = slice_index xs (length xs - 1)

abbrev pub forms_of : List ℕ → ℕ
forms_of xs = 3 * form_of (shape_of_no (first_x xs / 7)) + form_of (shape_of_no (last_x xs / 7))

-- THE LINES OF THE TABLES: a line is a number, and its entries are groups of b bits, the first lowest

abbrev pub entry : ℕ → ℕ → ℕ → ℕ
entry b w i = w / 2 ^ (b * i) % 2 ^ b

-- w is the line of a row: by the forms of the first and last operand, the place of its first family; up to which place it is tried; where its families begin; the count of operands
pub record RowLine (row w : ℕ) : Type 0 where
  pub place : (forms : ℕ) → forms < 9 → entry 4 w forms ≡ place_of forms (row_at row).families 0
  pub stop : entry 4 w 9 ≡ stop_of (row_at row).families
  pub family : (i : ℕ) → i < length (row_at row).families → family_of (entry 8 w 5 + i) ≡ slice_index_or (row_at row).families i no_family
  pub count : entry 4 w 12 ≡ operand_count (row_at row)

-- w is the line of a family: its digits, and above them the numbers of its sizes, its set and its second set
pub record Word (f w : ℕ) : Type 0 where
  pub digits : (i : ℕ) → i < 13 → entry 4 w i ≡ digit_of f i
  pub sizes : sizes_of (entry 4 w 13) ≡ (family_of f).sizes
  pub set : set_of (entry 4 w 14) ≡ (family_of f).set
  pub second : set_of (entry 4 w 15) ≡ (family_of f).second

-- w is the line of a size: by form, the first operand of the shape that the form asks, where it asks one
pub record Starts (n w : ℕ) : Type 0 where
  pub start : (form : ℕ) → form < 7 → asked_of form n < 13 → entry 8 w form ≡ 7 * asked_of form n

-- w is the line of a list of sizes: a bit for each size of it
pub record Sizes (k w : ℕ) : Type 0 where
  pub within : (n : ℕ) → n < 41 → bit w n ≡ mem_size (size_of_no n) (sizes_of k)

-- w is the line of a set: a bit for each scalar of it
pub record Scalars (k w : ℕ) : Type 0 where
  pub small : w < 128
  pub within : (s : ℕ) → s < 7 → has w s ≡ member s (set_of k)

-- the sets of T and of I at which the scalar s converts to a component: where that is I every T will do, where it is another every I
abbrev pub slot_t : ℕ → ℕ → ℕ → Bool
slot_t of s t = or (of == 7) (reaches s (component_at (component_of_no of) t 0))

abbrev pub slot_i : ℕ → ℕ → ℕ → Bool
slot_i of s i = or (not (of == 7)) (reaches s i)

-- w is the line of a component: by scalar, the set of T
pub record Reached (of w : ℕ) : Type 0 where
  pub within : (s t : ℕ) → s < 7 → t < 7 → has (entry 8 w s) t ≡ slot_t of s t

-- the T to which what is joined so far converts: every one where nothing is
abbrev pub allows : Option ℕ → ℕ → Bool
allows (Some j) t = reaches j t
allows None t = true

-- WHERE AN OPERAND IS RUNNING, and none is both running and abstract, the overloads that remain and fit are those without an abstract parameter (`proofs/Marks.antt`): so
-- the engine is told whether one is running, and looks for the first concrete T

abbrev pub kept : Bool → Overload → Bool
kept running o = or (not running) (not (any_abstract o.params))

abbrev pub judge_kept : Bool → Row → List Ty → Judged
judge_kept running r ts = judge (sifted (kept running) (overloads_of r)) ts

-- a T that is left
abbrev pub left_t : Bool → ℕ → Bool
left_t running t = or (not running) (not (is_abstract t))

-- WHAT THE ANSWER MEANS

unfoldable pub out_of : Out → Ty
out_of (Plain x) = operand x
out_of (Frexp x) = frexp (operand x)
out_of (Modf x) = modf (operand x)

-- document 01's refusal 8: no overload fits
unfoldable pub judged_of : Option Out → Judged
judged_of (Some o) = gives (out_of o)
judged_of None = none_fits
