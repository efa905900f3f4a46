-- Where an overload stands in its family, and what the tables of the code hold. Assumes nothing.
use Rattle.std.specs.Prelude.{ℕ, ◌+◌, ◌*◌, ◌/◌, ◌%◌, ◌<◌, ◌≡◌, List, [], ◌∷◌, length, get_or}
use Rattle.conv.specs.Rank.Shape.{one}
use Rattle.overload.specs.Rows.{Family, Size, size, component_at}
use Rattle.overload.specs.inner.Code.{size_no, sizes_of, set_of, component_of_no, asked_of, encode, entry}

-- how many overloads a family has
abbrev pub count_of : Family → ℕ
count_of g = length g.set * length g.sizes * length g.second

-- the T, the number of the size and the I of the overload at place j of a family: from place to place I goes on first, then the size, then T

abbrev pub turn_of : Family → ℕ → ℕ
turn_of g j = j / length g.second

abbrev pub t_at : Family → ℕ → ℕ
t_at g j = get_or g.set (turn_of g j / length g.sizes) 0

abbrev pub size_in : List Size → ℕ → ℕ
size_in zs i = size_no (get_or zs i (size one))

abbrev pub n_at : Family → ℕ → ℕ
n_at g j = size_in g.sizes (turn_of g j % length g.sizes)

abbrev pub i_at : Family → ℕ → ℕ
i_at g j = get_or g.second (j % length g.second) 0

-- form and component of the parameter k; behind the last they are those of `N`
abbrev pub form_in : Family → ℕ → ℕ
form_in g k = get_or (encode g) (2 * k + 1) 0

abbrev pub component_in : Family → ℕ → ℕ
component_in g k = get_or (encode g) (2 * k + 2) 0

-- the parameter k at a size, a T and an I, as an operand's number
abbrev pub code_of_param : Family → ℕ → ℕ → ℕ → ℕ → ℕ
code_of_param g n t i k = 7 * asked_of (form_in g k) n + component_at (component_of_no (component_in g k)) t i

-- the four of them at place j
abbrev pub code_at : Family → ℕ → ℕ → ℕ
code_at g j k = code_of_param g (n_at g j) (t_at g j) (i_at g j) k

abbrev pub codes_at : Family → ℕ → List ℕ
codes_at g j = code_at g j 0 ∷ code_at g j 1 ∷ code_at g j 2 ∷ code_at g j 3 ∷ []

-- the parameter k has a form, and its form a shape at the size
pub record Asked (g : Family) (n k : ℕ) : Type 0 where
  pub form : form_in g k < 7
  pub shape : asked_of (form_in g k) n < 13
  pub component : component_in g k < 10

-- w is the line of a set: how many scalars it has, and each of them, by number
pub record SetLine (k w : ℕ) : Type 0 where
  pub count : w % 8 ≡ length (set_of k)
  pub at : (i : ℕ) → i < length (set_of k) → entry 3 w (i + 1) ≡ get_or (set_of k) i 0

-- w is the line of a list of sizes: how many it has, the first, and how far it is to the next and to the third after it
abbrev pub size_by : ℕ → ℕ → ℕ
size_by w i = entry 8 w 1 + entry 8 w 2 * (i % 3) + entry 8 w 3 * (i / 3)

pub record SizesLine (k w : ℕ) : Type 0 where
  pub count : w % 256 ≡ length (sizes_of k)
  pub at : (i : ℕ) → i < length (sizes_of k) → size_by w i ≡ size_in (sizes_of k) i
