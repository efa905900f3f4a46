-- Which types convert to which, and at what rank: WGSL "Conversion Rank", with document 01's numbers. Assumes nothing.
use Rattle.std.specs.Prelude.{ℕ, ◌+◌, ◌/◌, ◌%◌, Bool, true, false, cond, eqb, ltb, Option, Some, None}
use Rattle.conv.specs.Types.{Ty, abstract_int, abstract_float, i32, u32, f32, f16}
use Rattle.conv.specs.Types.Ty.{scalar, vec, mat, array, runtime, atomic, ptr, ref, frexp, modf, exchange}

abbrev pub pick : Bool → ℕ → ℕ → ℕ
pick true a b = a
pick false a b = b

unfoldable pub both : Bool → Bool → Bool
both true b = b
both false b = false

-- the number that stands where there is no conversion
abbrev pub none : ℕ
none = 255

-- a rank, or the number of a type, as the code answers it: nothing where there is no conversion
abbrev pub found : ℕ → Option ℕ
found r = cond (eqb r none) None (Some r)

-- a line of the table of ranks: from x to y the rank r, else what follows
abbrev pub line : ℕ → ℕ → ℕ → ℕ → ℕ → ℕ → ℕ
line x y r from to rest = pick (both (eqb from x) (eqb to y)) r rest

-- the rank of a conversion between scalars. A scalar to itself: 0
unfoldable pub rank_of : ℕ → ℕ → ℕ
rank_of from to =
    pick (both (ltb from 7) (eqb from to)) 0
    (line abstract_float f32 1 from to
    (line abstract_float f16 2 from to
    (line abstract_int i32 3 from to
    (line abstract_int u32 4 from to
    (line abstract_int abstract_float 5 from to
    (line abstract_int f32 6 from to
    (line abstract_int f16 7 from to
    none)))))))

-- the shape of a type, which a conversion keeps: a scalar, a vector of a width, a matrix of columns and rows, any other type
pub data Shape : Type 0 where
  one : Shape
  vector : ℕ → Shape
  matrix : ℕ → ℕ → Shape
  other : Shape

-- the form of a shape, as a number, its columns and its rows, which for a vector are its width
abbrev pub form_of : Shape → ℕ
form_of one = 0
form_of (vector n) = 1
form_of (matrix c r) = 2
form_of other = 3

abbrev pub columns_of : Shape → ℕ
columns_of one = 0
columns_of (vector n) = 0
columns_of (matrix c r) = c
columns_of other = 0

abbrev pub rows_of : Shape → ℕ
rows_of one = 0
rows_of (vector n) = n
rows_of (matrix c r) = r
rows_of other = 0

unfoldable pub shape_of : Ty → Shape
shape_of (scalar s) = one
shape_of (vec n s) = vector n
shape_of (mat c r s) = matrix c r
shape_of (array k t) = other
shape_of (runtime t) = other
shape_of (atomic s) = other
shape_of (ptr space access t) = other
shape_of (ref space access t) = other
shape_of (frexp t) = other
shape_of (modf t) = other
shape_of (exchange s) = other

-- the component of a scalar, a vector or a matrix
unfoldable pub component_of : Ty → ℕ
component_of (scalar s) = s
component_of (vec n s) = s
component_of (mat c r s) = s
component_of (array k t) = 0
component_of (runtime t) = 0
component_of (atomic s) = 0
component_of (ptr space access t) = 0
component_of (ref space access t) = 0
component_of (frexp t) = 0
component_of (modf t) = 0
component_of (exchange s) = 0

-- equal widths, or equal columns and rows
abbrev pub same_shape : Shape → Shape → Bool
same_shape a b = both (ltb (form_of a) 3) (both (eqb (form_of a) (form_of b)) (both (eqb (columns_of a) (columns_of b)) (eqb (rows_of a) (rows_of b))))

-- two scalars, vectors or matrices convert by component, with its rank
abbrev pub by_component : Ty → Ty → ℕ
by_component from to = pick (same_shape (shape_of from) (shape_of to)) (rank_of (component_of from) (component_of to)) none

-- the constructor of a type, as a number; its numbers; its element
unfoldable pub tag_of : Ty → ℕ
tag_of (scalar s) = 0
tag_of (vec n s) = 1
tag_of (mat c r s) = 2
tag_of (array k t) = 3
tag_of (runtime t) = 4
tag_of (atomic s) = 5
tag_of (ptr space access t) = 6
tag_of (ref space access t) = 7
tag_of (frexp t) = 8
tag_of (modf t) = 9
tag_of (exchange s) = 10

abbrev pub is_pointer : Ty → Bool
is_pointer t = eqb (tag_of t) 6

abbrev pub is_reference : Ty → Bool
is_reference t = eqb (tag_of t) 7

unfoldable pub first_of : Ty → ℕ
first_of (scalar s) = s
first_of (vec n s) = n
first_of (mat c r s) = c
first_of (array k t) = k
first_of (runtime t) = 0
first_of (atomic s) = s
first_of (ptr space access t) = space
first_of (ref space access t) = space
first_of (frexp t) = 0
first_of (modf t) = 0
first_of (exchange s) = s

unfoldable pub second_of : Ty → ℕ
second_of (scalar s) = 0
second_of (vec n s) = 0
second_of (mat c r s) = r
second_of (array k t) = 0
second_of (runtime t) = 0
second_of (atomic s) = 0
second_of (ptr space access t) = access
second_of (ref space access t) = access
second_of (frexp t) = 0
second_of (modf t) = 0
second_of (exchange s) = 0

unfoldable pub element_of : Ty → Ty
element_of (scalar s) = scalar s
element_of (vec n s) = scalar s
element_of (mat c r s) = scalar s
element_of (array k t) = t
element_of (runtime t) = t
element_of (atomic s) = scalar s
element_of (ptr space access t) = t
element_of (ref space access t) = t
element_of (frexp t) = t
element_of (modf t) = t
element_of (exchange s) = scalar s

-- u is made by the constructor of that number, with these two numbers
abbrev pub headed : Ty → ℕ → ℕ → ℕ → Bool
headed u tag a b = both (eqb (tag_of u) tag) (both (eqb (first_of u) a) (eqb (second_of u) b))

-- the two are one type: true exactly where they are equal (`same-ty` and `self-ty` in `proofs/Made.antt`)
unfoldable pub same_ty : Ty → Ty → Bool
same_ty (scalar s) u = headed u 0 s 0
same_ty (vec n s) u = both (headed u 1 n 0) (eqb (component_of u) s)
same_ty (mat c r s) u = both (headed u 2 c r) (eqb (component_of u) s)
same_ty (array k t) u = both (headed u 3 k 0) (same_ty t (element_of u))
same_ty (runtime t) u = both (headed u 4 0 0) (same_ty t (element_of u))
same_ty (atomic s) u = headed u 5 s 0
same_ty (ptr space access t) u = both (headed u 6 space access) (same_ty t (element_of u))
same_ty (ref space access t) u = both (headed u 7 space access) (same_ty t (element_of u))
same_ty (frexp t) u = both (headed u 8 0 0) (same_ty t (element_of u))
same_ty (modf t) u = both (headed u 9 0 0) (same_ty t (element_of u))
same_ty (exchange s) u = headed u 10 s 0

-- the rank of a conversion: a type to itself 0, else by component
unfoldable pub conversion_rank : Ty → Ty → ℕ
conversion_rank from to = pick (same_ty from to) 0 (by_component from to)

abbrev pub converts : Ty → Ty → Bool
converts from to = ltb (conversion_rank from to) none

-- the type of a shape and a component. A type that is neither scalar nor vector nor matrix is stood for by an array without count
unfoldable pub made : Shape → ℕ → Ty
made one s = scalar s
made (vector n) s = vec n s
made (matrix c r) s = mat c r s
made other s = runtime (scalar s)

-- plain number: scalar s is s; vecN of s is 7 x (N - 1) + s
unfoldable pub plain : ℕ → Ty
plain k = made (cond (ltb k 7) one (vector (k / 7 + 1))) (k % 7)

-- the common type of two plain numbers: that one of the two to which the other converts, or 255
unfoldable pub common_of : ℕ → ℕ → ℕ
common_of a b =
    pick (both (ltb a 28) (ltb b 28)) (pick (converts (plain a) (plain b)) b (pick (converts (plain b) (plain a)) a none)) none

-- the rank of a conversion between two plain numbers
unfoldable pub plain_rank : ℕ → ℕ → ℕ
plain_rank a b = pick (both (ltb a 28) (ltb b 28)) (conversion_rank (plain a) (plain b)) none

-- does the type of the plain number k convert to the type of the same shape with the component t? From 28 on a number is not plain, and converts to none
abbrev pub accepts : ℕ → ℕ → Bool
accepts k t = both (ltb k 28) (ltb (rank_of (k % 7) t) none)
