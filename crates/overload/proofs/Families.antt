-- What holds of every family, and of each of its sizes: one computed test over all of them. Assumes nothing.
use Rattle.std.proofs.Common.{◌≡◌, ℕ, zero, suc, ◌<◌, ◌≤◌, Bool, true, false, T, eqb, ltb, leb, List, [], ◌∷◌, ◌++◌, length, get_or, sym, refl, ◌∙◌, subst, ⊎_elim, eqb→eq, ltb→lt, leb→le, eq-eqb}
use mathlib.Core.List.Memᴰ
use mathlib.Core.List.{Memᴰ}
use Rattle.conv.specs.Rank.{both, Shape, form_of, columns_of, rows_of, same_shape}
use Rattle.conv.specs.Rank.Shape.{one, vector, matrix, other}
use Rattle.conv.proofs.Finite.{both_left, both_right, both-pair, implies, modus}
use Rattle.overload.specs.Overload.{or}
use Rattle.overload.specs.Rows.{Size, size, Component, Pattern, Family, form_at, Row, rows, row_at, no_row}
use Rattle.overload.specs.Rows.Component.{of_t, of_i, exp_t, just}
use Rattle.overload.specs.inner.Code as code
use Rattle.overload.specs.inner.Code.{shape_no, size_no, size_of_no, same_size, mem_size, member, family_of, families, no_family, first_param, last_param, pivot_no, size_at, joined}
use Rattle.overload.proofs.Preference.{Sized, all_float, all_fine, is_t, is_i, some, or_cases}

-- shapes and sizes that pass the test are one

remake_shape : ℕ → ℕ → ℕ → Shape
remake_shape f c r = get_or (one ∷ vector r ∷ matrix c r ∷ []) f other

remade : (s : Shape) → remake_shape (form_of s) (columns_of s) (rows_of s) ≡ s
unfolding remake_shape
remade one = refl
remade (vector n) = refl
remade (matrix c r) = refl
remade other = refl

pub shape-eq : (a b : Shape) → T (same_shape a b) → a ≡ b
shape-eq a b h =
    let h₁ = both_right (ltb (form_of a) 3) _ h in
    let h₂ = both_right (eqb (form_of a) (form_of b)) _ h₁ in
    let f = eqb→eq (form_of a) (form_of b) (both_left _ _ h₁) in
    let c = eqb→eq (columns_of a) (columns_of b) (both_left _ _ h₂) in
    let r = eqb→eq (rows_of a) (rows_of b) (both_right (eqb (columns_of a) (columns_of b)) _ h₂) in
    sym (remade a) ∙ (λ i. remake_shape (f i) (c i) (r i)) ∙ remade b

pub size-eq : (a b : Size) → T (same_size a b) → a ≡ b
unfolding same_size
size-eq a b h =
    let k = eqb→eq a.inner b.inner (both_left _ _ h) in
    let s = shape-eq a.shape b.shape (both_right (eqb a.inner b.inner) _ h) in
    λ i. record { shape = s i; inner = k i }

pub mem-size : (z : Size) (zs : List Size) → T (mem_size z zs) → Memᴰ z zs
unfolding mem_size
mem-size z [] h = absurd h
mem-size z (y ∷ ys) h =
    ⊎_elim (λ e. Memᴰ.head (size-eq z y e)) (λ n. Memᴰ.tail (mem-size z ys n)) (or_cases (same_size z y) (mem_size z ys) h)

-- a test of every member of a list, and of what stands past its end

unfoldable pub every : {A : Type 0} → (A → Bool) → List A → Bool
every g [] = true
every g (x ∷ xs) = both (g x) (every g xs)

pub every-at : {A : Type 0} (g : A → Bool) (d : A) (xs : List A) → T (g d) → T (every g xs) → (k : ℕ) → T (g (get_or xs k d))
unfolding every
every-at g d [] e h k = e
every-at g d (x ∷ xs) e h zero = both_left _ _ h
every-at g d (x ∷ xs) e h (suc k) = every-at g d xs e (both_right (g x) _ h) k

pub every_in : {A : Type 0} (g : A → Bool) (xs : List A) → T (every g xs) → (x : A) → Memᴰ x xs → T (g x)
unfolding every
every_in g [] h x m = absurd (Memᴰ.not-nil m)
every_in g (y ∷ ys) h x m =
    ⊎_elim (λ e. subst (λ w. T (g w)) (sym e) (both_left _ _ h)) (λ n. every_in g ys (both_right (g y) _ h) x n) (Memᴰ.cases_cons m)

-- EVERY FAMILY

-- the component of a result: T, or a fixed scalar
abbrev pub plain_c : Component → Bool
plain_c of_t = true
plain_c of_i = false
plain_c exp_t = false
plain_c (just s) = ltb s 7

abbrev below7 : ℕ → Bool
below7 s = ltb s 7

-- where no operand gives the size there is one; the number that stands for it
abbrev pub only_no : Family → ℕ
only_no f = size_no (get_or f.sizes 0 (size one))

-- the size that the shapes of the first and last operands give
abbrev pub size_by : Family → ℕ → ℕ → ℕ
size_by f a b = size_at (pivot_no f) (only_no f) a b

abbrev shapely : Size → Pattern → Bool
shapely z p = ltb (shape_no (form_at p.form z)) 13

size_test : Family → Size → Bool
size_test f z =
    both (eqb (size_by f (shape_no (form_at (first_param f).form z)) (shape_no (form_at (last_param f).form z))) (size_no z))
    (both (same_size (size_of_no (size_no z)) z)
    (both (ltb (size_no z) 41)
    (both (ltb (form_of z.shape) 3)
    (both (every (shapely z) f.params) (both (shapely z f.result) (implies (eqb (length f.params) 0) (eqb (size_no z) 0)))))))

family_test : Family → Bool
family_test f =
    both (leb (length f.params) 4)
    (both (all_fine f.set f.params)
    (both (or (leb (length f.set) 1) (some is_t f.params))
    (both (or (leb (length f.second) 1) (some is_i f.params))
    (both (plain_c f.result.of)
    (both (every below7 f.set) (both (every below7 f.second) (both (implies (eqb (pivot_no f) 3) (eqb (length f.sizes) 1)) (every (size_test f) f.sizes))))))))

rows_test : Row → Bool
rows_test r = every family_test r.families

computed : T (every rows_test rows)
unfolding rows_test family_test size_test every all_float implies both or rows row_at form_at same_size shape_no size_no size_of_no pivot_no size_at code.form_no code.shape_of_no
computed = tt

none-there : T (family_test no_family)
unfolding family_test every all_float implies both or pivot_no code.form_no
none-there = tt

no_rows : T (rows_test no_row)
unfolding rows_test every
no_rows = tt

-- A SIZE OF A FAMILY
pub record Fair (f : Family) (z : Size) : Type 0 where
  pub by : size_by f (shape_no (form_at (first_param f).form z)) (shape_no (form_at (last_param f).form z)) ≡ size_no z
  pub back : size_of_no (size_no z) ≡ z
  pub small : size_no z < 41
  pub sized : Sized z
  pub params : T (every (shapely z) f.params)
  pub result : shape_no (form_at f.result.form z) < 13
  pub nothing : length f.params ≡ 0 → size_no z ≡ 0

fair-of : (f : Family) (z : Size) → T (size_test f z) → Fair f z
unfolding size_test
fair-of f z h =
    let h₁ = both_right (eqb (size_by f (shape_no (form_at (first_param f).form z)) (shape_no (form_at (last_param f).form z))) (size_no z)) _ h in
    let h₂ = both_right (same_size (size_of_no (size_no z)) z) _ h₁ in
    let h₃ = both_right (ltb (size_no z) 41) _ h₂ in
    let h₄ = both_right (ltb (form_of z.shape) 3) _ h₃ in
    let h₅ = both_right (every (shapely z) f.params) _ h₄ in
    record {
      by = eqb→eq _ (size_no z) (both_left _ _ h);
      back = size-eq (size_of_no (size_no z)) z (both_left _ _ h₁);
      small = ltb→lt (size_no z) 41 (both_left _ _ h₂);
      sized = both_left _ _ h₃;
      params = both_left _ _ h₄;
      result = ltb→lt (shape_no (form_at f.result.form z)) 13 (both_left _ _ h₅);
      nothing = λ e. eqb→eq (size_no z) 0 (modus _ _ (both_right (shapely z f.result) _ h₅) (rw (eq-eqb (length f.params) 0 e) tt));
    }

pub record Good (f : Family) : Type 0 where
  pub few : length f.params ≤ 4
  pub small : T (all_fine f.set f.params)
  pub of_some_t : T (or (leb (length f.set) 1) (some is_t f.params))
  pub of_some_i : T (or (leb (length f.second) 1) (some is_i f.params))
  pub result : T (plain_c f.result.of)
  pub set : (t : ℕ) → T (member t f.set) → t < 7
  pub second : (i : ℕ) → T (member i f.second) → i < 7
  pub single : pivot_no f ≡ 3 → length f.sizes ≡ 1
  pub fair : (z : Size) → Memᴰ z f.sizes → Fair f z

-- a test of every member of a set
pub every-member : (g : ℕ → Bool) (set : List ℕ) → T (every g set) → (t : ℕ) → T (member t set) → T (g t)
unfolding every member
every-member g [] h t m = absurd m
every-member g (u ∷ us) h t m =
    ⊎_elim (λ e. subst (λ (k : ℕ). T (g k)) (sym (eqb→eq t u e)) (both_left _ _ h)) (λ n. every-member g us (both_right (g u) _ h) t n)
    (or_cases (eqb t u) (member t us) m)

below_in : (set : List ℕ) → T (every below7 set) → (t : ℕ) → T (member t set) → t < 7
below_in set h t m = ltb→lt t 7 (every-member below7 set h t m)

good_of : (f : Family) → T (family_test f) → Good f
unfolding family_test
good_of f h =
    let h₁ = both_right (leb (length f.params) 4) _ h in
    let h₂ = both_right (all_fine f.set f.params) _ h₁ in
    let h₃ = both_right (or (leb (length f.set) 1) (some is_t f.params)) _ h₂ in
    let h₄ = both_right (or (leb (length f.second) 1) (some is_i f.params)) _ h₃ in
    let h₅ = both_right (plain_c f.result.of) _ h₄ in
    let h₆ = both_right (every below7 f.set) _ h₅ in
    let h₇ = both_right (every below7 f.second) _ h₆ in
    record {
      few = leb→le (length f.params) 4 (both_left _ _ h);
      small = both_left _ _ h₁;
      of_some_t = both_left _ _ h₂;
      of_some_i = both_left _ _ h₃;
      result = both_left _ _ h₄;
      set = below_in f.set (both_left _ _ h₅);
      second = below_in f.second (both_left _ _ h₆);
      single = λ e. eqb→eq (length f.sizes) 1 (modus _ _ (both_left _ _ h₇) (rw (eq-eqb (pivot_no f) 3 e) tt));
      fair = λ z m. fair-of f z (every_in (size_test f) f.sizes (both_right (implies (eqb (pivot_no f) 3) (eqb (length f.sizes) 1)) _ h₇) z m);
    }

-- every family of a row
pub good-in : (row k : ℕ) → Good (get_or (row_at row).families k no_family)
unfolding row_at rows_test
good-in row k =
    good_of (get_or (row_at row).families k no_family)
    (every-at family_test no_family (row_at row).families none-there (every-at rows_test no_row rows no_rows computed row) k)

-- and of all
pub joined-every : (g : Family → Bool) (rs : List Row) → T (every (λ (r : Row). every g r.families) rs) → T (every g (joined rs))
unfolding every joined
joined-every g [] h = tt
joined-every g (r ∷ rs) h = both-lists r.families (both_left _ _ h) (joined-every g rs (both_right (every g r.families) _ h))
  where
    both-lists : (fs : List Family) → T (every g fs) → T (every g (joined rs)) → T (every g (fs ++ joined rs))
    both-lists [] a b = b
    both-lists (f ∷ fs) a b = both-pair _ _ (both_left _ _ a) (both-lists fs (both_right (g f) _ a) b)

pub good : (f : ℕ) → Good (family_of f)
unfolding family_of families rows_test
good f = good_of (family_of f) (every-at family_test no_family families none-there (joined-every family_test rows computed) f)
