-- The ways out of the engine, each as a judgment of demand 3: first of one family, then of a row. Assumes nothing.
use Rattle.std.proofs.Common.{◌≡◌, ℕ, zero, suc, ◌+◌, ◌-◌, ◌*◌, ◌/◌, ◌%◌, ◌<◌, ◌≤◌, max, Bool, true, false, cond, T, eqb, ltb, ◌≢◌, List, [], ◌∷◌, map, length, get_or, sym, refl, ap, ◌∙◌, subst, ⊎_elim, le_of_suc-le-suc, eq-or-lt_of_le, add-one, arith, eqb→eq, ltb→lt, le-ltb, eq-eqb, ne_eqb}
use mathlib.Core.List.Memᴰ
use mathlib.Core.List.{Memᴰ}
use lib.Dec.{eqb_refl}
use lib.Bits.{bit_and}
use lib.ListN.{length-map}
use borrow.Author.Tests.{eqb-true, eqb-false}
use Rattle.conv.specs.Types.{Ty}
use Rattle.conv.specs.Types.Ty.{frexp, modf}
use Rattle.conv.specs.Rank.{pick, both, none, Shape, form_of, shape_of, same_shape, made}
use Rattle.conv.specs.Rank.Shape.{one, other}
use Rattle.conv.proofs.Finite.{both-pair, implies, modus, below}
use Rattle.conv.proofs.Made.{shape-made, same-shape-self}
use Rattle.overload.specs.Overload.{Overload, fits, listed, Resolved}
use Rattle.overload.specs.Overload.Judged.{none_fits}
use Rattle.overload.specs.Marks.{passing}
use Rattle.overload.specs.Rows.{Size, size, Form, Wrap, Family, Component, form_at, component_at, pattern_ty, overload, wrapped, of_family, of_row, row_at}
use Rattle.overload.specs.Rows.Form.{sized, left}
use Rattle.overload.specs.Rows.Component.{of_t, of_i, exp_t, just}
use Rattle.overload.specs.Rows.Wrap.{bare, in_frexp, in_modf}
use Rattle.overload.specs.inner.Code.{shape_of_no, shape_no, operand, size_no, size_of_no, same_size, mem_size, sizes_of, form_no, form_of_no, component_no, wrap_no, asked_of, family_of, first_param, last_param, pivot_no, size_at, encode, digit_of, has, member, first_with, preference, fits_at, first_x, last_x, forms_of, place_of, placed, stop_of, no_place, kept, out_of, judged_of}
use Rattle.overload.specs.declared.Out.{Out}
use Rattle.std.specs.Prelude.{Option, Some, None}
use Rattle.overload.proofs.Preference.{Sized, or_left, or_right, form_small}
use Rattle.overload.proofs.First.{same_first}
use Rattle.overload.proofs.Families.{Good, good, good-in, Fair, plain_c, size_by, only_no, mem-size, shape-eq}
use Rattle.overload.proofs.Fitting.{nobody, first_ty, last_ty, size_of_xs, forms-of-fit, first-shape, last-shape}
use Rattle.overload.proofs.Listing.{of-family, listed_of}
use Rattle.overload.proofs.Demand3.{takes, count-apart, size-apart, no-T, no-I, small-T, small-I, first-preferred}
use Rattle.overload.proofs.Sieve.{left_set, narrow, narrow_good, narrow-resolved}
use Rattle.overload.proofs.Marks.{kept_of}
use Rattle.overload.proofs.Apart.{family_at, row-of-family}
use Rattle.overload.proofs.Places.{Way, way, place-within, stop-within}
use Rattle.overload.proofs.Sets.{has-and}
use Rattle.overload.proofs.Slots.{form-back, form-below, shape-test}

-- THE SHAPES of operands by their numbers

pub shape-numbers : (k : ℕ) → k < 13 → T (eqb (shape_no (shape_of_no k)) k)
unfolding both shape_no shape_of_no
shape-numbers k h = below 13 (λ k. eqb (shape_no (shape_of_no k)) k) tt k h

-- a shape that is no scalar, vector or matrix has none
pub beyond : (k : ℕ) → 13 ≤ k → shape_of_no k ≡ other
unfolding shape_of_no
beyond k h = rw (ne_eqb k 0 (λ e. omega arith), le-ltb k 4 (omega arith), le-ltb k 13 h)

nobody-is : operand 0 ≡ nobody
unfolding shape_of_no made
nobody-is = refl

get-operand : (xs : List ℕ) (k : ℕ) → get_or (map operand xs) k nobody ≡ operand (get_or xs k 0)
get-operand [] k = sym nobody-is
get-operand (x ∷ xs) zero = refl
get-operand (x ∷ xs) (suc k) = get-operand xs k

shape_at : (xs : List ℕ) (k : ℕ) → shape_of (get_or (map operand xs) k nobody) ≡ shape_of_no (get_or xs k 0 / 7)
shape_at xs k = ap shape_of (get-operand xs k) ∙ shape-made (shape_of_no (get_or xs k 0 / 7)) (get_or xs k 0 % 7)

pub first-at : (xs : List ℕ) → shape_of (first_ty (map operand xs)) ≡ shape_of_no (first_x xs / 7)
first-at xs = shape_at xs 0

pub last-at : (xs : List ℕ) → shape_of (last_ty (map operand xs)) ≡ shape_of_no (last_x xs / 7)
last-at xs = ap (λ (k : ℕ). shape_of (get_or (map operand xs) (k - 1) nobody)) (length-map xs operand) ∙ shape_at xs (length xs - 1)

number_at : (k : ℕ) → k < 13 → (s : Shape) → s ≡ shape_of_no k → shape_no s ≡ k
number_at k h s e = ap shape_no e ∙ eqb→eq (shape_no (shape_of_no k)) k (shape-numbers k h)

-- THE SIZE

pivot-cases : (f : Family) → pivot_no f ≢ 0 → pivot_no f ≢ 1 → pivot_no f ≢ 2 → pivot_no f ≡ 3
unfolding pivot_no
pivot-cases f a b c = go (eqb (form_no (first_param f).form) (form_no sized)) (eqb (form_no (last_param f).form) (form_no sized)) (eqb (form_no (first_param f).form) (form_no left)) a b c
  where
    go : (x y z : Bool) → pick x 0 (pick y 1 (pick z 2 3)) ≢ 0 → pick x 0 (pick y 1 (pick z 2 3)) ≢ 1 → pick x 0 (pick y 1 (pick z 2 3)) ≢ 2 → pick x 0 (pick y 1 (pick z 2 3)) ≡ 3
    go true y z a b c = absurd (a refl)
    go false true z a b c = absurd (b refl)
    go false false true a b c = absurd (c refl)
    go false false false a b c = refl

-- a list of one size has its number
one_test : ℕ → Bool
one_test k = implies (eqb (length (sizes_of k)) 1) (eqb (size_no (get_or (sizes_of k) 0 (size one))) k)

one-tests : (k : ℕ) → k < 16 → T (one_test k)
unfolding one_test implies both size_no shape_no
one-tests k h = below 16 one_test tt k h

size-pick : (p k l a b : ℕ) → (p ≢ 0 → p ≢ 1 → p ≢ 2 → k ≡ l) → size_at p k a b ≡ size_at p l a b
unfolding size_at
size-pick p k l a b h = go (eqb p 0) refl (eqb p 1) refl (eqb p 2) refl
  where
    go : (x : Bool) → eqb p 0 ≡ x → (y : Bool) → eqb p 1 ≡ y → (z : Bool) → eqb p 2 ≡ z
        → pick x a (pick y b (pick z (3 * a + (b + 2) / 3) k)) ≡ pick x a (pick y b (pick z (3 * a + (b + 2) / 3) l))
    go true e y d z c = refl
    go false e true d z c = refl
    go false e false d true c = refl
    go false e false d false c = h (eqb-false p 0 e) (eqb-false p 1 d) (eqb-false p 2 c)

module _ (f k : ℕ) (hk : k < 16) (sizes : sizes_of k ≡ (family_of f).sizes) (xs : List ℕ) (ha : first_x xs / 7 < 13) (hb : last_x xs / 7 < 13) (n : ℕ) (e : n ≡ size_at (digit_of f 12) k (first_x xs / 7) (last_x xs / 7)) where
  its-one : pivot_no (family_of f) ≡ 3 → k ≡ only_no (family_of f)
  unfolding one_test
  its-one q =
      let l : length (sizes_of k) ≡ 1 = ap length sizes ∙ (good f).single q in
      sym (eqb→eq _ k (modus _ _ (one-tests k hk) (rw (eq-eqb (length (sizes_of k)) 1 l) tt))) ∙ ap (λ (zs : List Size). size_no (get_or zs 0 (size one))) sizes

  pub size_is : size_of_no n ≡ size_of_xs (family_of f) (map operand xs)
  unfolding encode
  size_is =
      ap size_of_no
      (e
      ∙ size-pick (pivot_no (family_of f)) k (only_no (family_of f)) (first_x xs / 7) (last_x xs / 7) (λ a b c. its-one (pivot-cases (family_of f) a b c))
      ∙ (λ j. size_by (family_of f) (sym (number_at (first_x xs / 7) ha _ (first-at xs)) j) (sym (number_at (last_x xs / 7) hb _ (last-at xs)) j)))

size-mem : (z : Size) (zs : List Size) → Sized z → Memᴰ z zs → T (mem_size z zs)
unfolding mem_size same_size
size-mem z [] h m = absurd (Memᴰ.not-nil m)
size-mem z (y ∷ ys) h m =
    ⊎_elim (λ e. or_left _ _ (subst (λ (w : Size). T (same_size z w)) e (itself z h))) (λ n. or_right (same_size z y) _ (size-mem z ys h n)) (Memᴰ.cases_cons m)
  where
    itself : (z : Size) → Sized z → T (both (eqb z.inner z.inner) (same_shape z.shape z.shape))
    itself z h = both-pair (eqb z.inner z.inner) (same_shape z.shape z.shape) (eqb_refl z.inner) (same-shape-self z.shape h)

-- THE RESULT

component-of : (c : Component) (t i : ℕ) → T (plain_c c) → component_at c t i ≡ pick (eqb (component_no c) 9) t (component_no c)
unfolding component_at component_no
component-of of_t t i h = refl
component-of of_i t i h = absurd h
component-of exp_t t i h = absurd h
component-of (just s) t i h = let l = ltb→lt s 7 h in rw (ne_eqb s 9 (λ e. omega arith))

component-few : (c : Component) → T (plain_c c) → component_no c ≢ 9 → component_no c < 7
unfolding component_no
component-few of_t h n = absurd (n refl)
component-few of_i h n = absurd h
component-few exp_t h n = absurd h
component-few (just s) h n = ltb→lt s 7 h

module _ (f n : ℕ) (hn : n < 41) (mn : T (mem_size (size_of_no n) (family_of f).sizes)) where
  fair : Fair (family_of f) (size_of_no n)
  fair = (good f).fair (size_of_no n) (mem-size (size_of_no n) (family_of f).sizes mn)

  form-digit : digit_of f 9 ≡ form_no (family_of f).result.form
  unfolding encode
  form-digit = refl

  of-digit : digit_of f 10 ≡ component_no (family_of f).result.of
  unfolding encode
  of-digit = refl

  pub result-form : digit_of f 9 < 7
  result-form = rw form-digit (form-below (family_of f).result.form)

  form-is : form_of_no (digit_of f 9) ≡ (family_of f).result.form
  form-is = ap form_of_no form-digit ∙ form-back (family_of f).result.form

  pub result-shape : asked_of (digit_of f 9) n < 13
  unfolding asked_of
  result-shape = subst (λ (q : Form). shape_no (form_at q (size_of_no n)) < 13) (sym form-is) fair.result

  pub result-component : digit_of f 10 ≢ 9 → digit_of f 10 < 7
  result-component h = rw of-digit (component-few (family_of f).result.of (good f).result (λ e. h (of-digit ∙ e)))

  shape_is : shape_of_no (asked_of (digit_of f 9) n) ≡ form_at (family_of f).result.form (size_of_no n)
  shape_is =
      let k = asked_of (digit_of f 9) n in
      let l = result-shape in
      shape-eq (shape_of_no k) (form_at (form_of_no (digit_of f 9)) (size_of_no n)) (rw (shape-test (digit_of f 9) n k result-form hn (omega arith), eq-eqb k k refl) tt)
      ∙ ap (λ (q : Form). form_at q (size_of_no n)) form-is

  -- a number of that shape is the type by the pattern
  pub result-is : (t i s : ℕ) → s < 7 → s ≡ pick (eqb (digit_of f 10) 9) t (digit_of f 10) → operand (7 * asked_of (digit_of f 9) n + s) ≡ pattern_ty (size_of_no n) t i (family_of f).result
  result-is t i s hs e =
      let k = asked_of (digit_of f 9) n in
      let q : (7 * k + s) / 7 ≡ k = omega arith in
      let r : (7 * k + s) % 7 ≡ s = omega arith in
      (λ j. made (shape_of_no (q j)) (r j))
      ∙ (λ j. made (shape_is j) ((e ∙ ap (λ (c : ℕ). pick (eqb c 9) t c) of-digit ∙ sym (component-of (family_of f).result.of t i (good f).result)) j))

pub wrap-digit : (f : ℕ) → digit_of f 11 ≡ wrap_no (family_of f).wrap
unfolding encode
wrap-digit f = refl

pub count-digit : (f : ℕ) → digit_of f 0 ≡ length (family_of f).params
unfolding encode
count-digit f = refl

module _ (t : Ty) where
  pub wrapped-bare : (w : Wrap) → wrap_no w ≡ 0 → t ≡ wrapped w t
  unfolding wrap_no wrapped
  wrapped-bare bare e = refl
  wrapped-bare in_frexp e = absurd (omega arith)
  wrapped-bare in_modf e = absurd (omega arith)

  pub wrapped-frexp : (w : Wrap) → wrap_no w ≡ 1 → frexp t ≡ wrapped w t
  unfolding wrap_no wrapped
  wrapped-frexp bare e = absurd (omega arith)
  wrapped-frexp in_frexp e = refl
  wrapped-frexp in_modf e = absurd (omega arith)

  pub wrapped-modf : (w : Wrap) → wrap_no w ≢ 0 → wrap_no w ≢ 1 → modf t ≡ wrapped w t
  unfolding wrap_no wrapped
  wrapped-modf bare e d = absurd (e refl)
  wrapped-modf in_frexp e d = absurd (d refl)
  wrapped-modf in_modf e d = refl

both_none : (a : Bool) → both a false ≡ false
unfolding both
both_none true = refl
both_none false = refl

-- ONE FAMILY: it does not fit, or the preferred overload's result

abbrev pub Family-judged : ℕ → Bool → List ℕ → Option Out → Type 0
Family-judged f running xs r = Resolved (passing (kept running) (listed (of_family (family_of f)))) (map operand xs) (judged_of r)

module _ (f : ℕ) (running : Bool) (xs : List ℕ) where
  abbrev fam : Family
  fam = narrow running (family_of f)

  fam-good : Good (narrow running (family_of f))
  fam-good = narrow_good running (family_of f) (good f)

  fam-size : size_of_xs (family_of f) (map operand xs) ≡ size_of_xs (narrow running (family_of f)) (map operand xs)
  unfolding pivot_no
  fam-size = refl

  judged : (r : Option Out) → Resolved (listed (of_family fam)) (map operand xs) (judged_of r) → Family-judged f running xs r
  judged r q = narrow-resolved (kept running) (family_of f) running (kept_of running f) (map operand xs) (judged_of r) q

  pub not-so-many : digit_of f 0 ≢ length xs → Family-judged f running xs None
  unfolding judged_of
  not-so-many h = judged None (count-apart fam fam-good (map operand xs) (λ e. h (count-digit f ∙ sym e ∙ length-map xs operand)))

  module _ (n : ℕ) (e : size_of_no n ≡ size_of_xs (family_of f) (map operand xs)) where
    pub not-that-size : mem_size (size_of_no n) (family_of f).sizes ≡ false → Family-judged f running xs None
    unfolding judged_of
    not-that-size h =
        judged None
        (size-apart fam fam-good (map operand xs)
        (λ m.
        let k = subst (λ (z : Size). Memᴰ z (family_of f).sizes) (sym (e ∙ fam-size)) m in
        subst T h (size-mem (size_of_no n) (family_of f).sizes ((good f).fair (size_of_no n) k).sized k)))

    -- at no T and no I does anything fit
    pub nowhere : T (mem_size (size_of_no n) (family_of f).sizes) → ((t i : ℕ) → t < 7 → i < 7 → fits_at (family_of f) n t i xs ≡ false) → Family-judged f running xs None
    unfolding judged_of both first_with
    nowhere mn law =
        judged None
        (no-T fam fam-good (map operand xs) (size_of_no n) (e ∙ fam-size) (mem-size (size_of_no n) (family_of f).sizes mn) (λ t. false) (λ i. false) law
        (same_first (takes fam.set (λ t. false)) (λ t. false) (λ t h. both_none (member t fam.set))))

    module _ (mn : T (mem_size (size_of_no n) (family_of f).sizes)) (P Q : ℕ) (law : (t i : ℕ) → t < 7 → i < 7 → fits_at (family_of f) n t i xs ≡ both (has P t) (has Q i)) where
      m : Memᴰ (size_of_no n) (family_of f).sizes
      m = mem-size (size_of_no n) (family_of f).sizes mn

      -- the first of the common part of two sets
      first-in : (set : List ℕ) (a s : ℕ) → ((t : ℕ) → t < 7 → has a t ≡ member t set) → first_with preference (takes set (has s)) ≡ first_with preference (has (bit_and a s))
      first-in set a s e = same_first _ _ (λ t h. ap (λ (c : Bool). both c (has s t)) (sym (e t h)) ∙ sym (has-and a s t))

      pub not-at-T : (a : ℕ) → ((t : ℕ) → t < 7 → has a t ≡ member t (left_set running (family_of f).set)) → first_with preference (has (bit_and a P)) ≡ none → Family-judged f running xs None
      unfolding judged_of
      not-at-T a ea q = judged None (no-T fam fam-good (map operand xs) (size_of_no n) (e ∙ fam-size) m (has P) (has Q) law (first-in (left_set running (family_of f).set) a P ea ∙ q))

      pub not-at-I : (b : ℕ) → ((i : ℕ) → i < 7 → has b i ≡ member i (family_of f).second) → first_with preference (has (bit_and b Q)) ≡ none → Family-judged f running xs None
      unfolding judged_of
      not-at-I b eb q = judged None (no-I fam fam-good (map operand xs) (size_of_no n) (e ∙ fam-size) m (has P) (has Q) law (first-in (family_of f).second b Q eb ∙ q))

      module _ (a b : ℕ) (ea : (t : ℕ) → t < 7 → has a t ≡ member t (left_set running (family_of f).set)) (eb : (i : ℕ) → i < 7 → has b i ≡ member i (family_of f).second)
          (t i : ℕ) (et : t ≡ first_with preference (has (bit_and a P))) (ei : i ≡ first_with preference (has (bit_and b Q))) (nt : t ≢ none) (ni : i ≢ none) where
        first-T : first_with preference (takes (left_set running (family_of f).set) (has P)) ≡ t
        first-T = first-in (left_set running (family_of f).set) a P ea ∙ sym et

        first-I : first_with preference (takes (family_of f).second (has Q)) ≡ i
        first-I = first-in (family_of f).second b Q eb ∙ sym ei

        pub T-small : t < 7
        T-small = small-T fam fam-good (map operand xs) (size_of_no n) (e ∙ fam-size) m (has P) (has Q) law t i first-T first-I nt ni

        pub I-small : i < 7
        I-small = small-I fam fam-good (map operand xs) (size_of_no n) (e ∙ fam-size) m (has P) (has Q) law t i first-T first-I nt ni

        pub it-fits : (o : Out) → out_of o ≡ wrapped (family_of f).wrap (pattern_ty (size_of_no n) t i (family_of f).result) → Family-judged f running xs (Some o)
        unfolding judged_of Resolved
        it-fits o r =
            judged (Some o)
            (overload (family_of f) t i (size_of_no n), first-preferred fam fam-good (map operand xs) (size_of_no n) (e ∙ fam-size) m (has P) (has Q) law t i first-T first-I nt ni, r)

-- A PLACE as the code answers it

pub placed-nothing : (k : ℕ) → placed k ≡ None → k ≡ no_place
placed-nothing k e = go (eqb k no_place) refl e
  where
    go : (b : Bool) → eqb k no_place ≡ b → cond b None (Some k) ≡ None → k ≡ no_place
    go true q p = eqb-true k no_place q
    go false q p = absurd cc

pub placed-it : (k s : ℕ) → placed k ≡ Some s → k ≡ s
placed-it k s e = go (eqb k no_place) e
  where
    go : (b : Bool) → cond b None (Some k) ≡ Some s → k ≡ s
    go true p = absurd cc
    go false p = cc

pub placed-some : (k s : ℕ) → placed k ≡ Some s → s ≢ no_place
placed-some k s e = go (eqb k no_place) refl e
  where
    go : (b : Bool) → eqb k no_place ≡ b → cond b None (Some k) ≡ Some s → s ≢ no_place
    go true q p = absurd cc
    go false q p = λ l. eqb-false k no_place q (placed-it k s e ∙ l)

-- A ROW

abbrev pub Row-judged : ℕ → Bool → List ℕ → Option Out → Type 0
Row-judged row running xs r = Resolved (passing (kept running) (of_row (row_at row))) (map operand xs) (judged_of r)

-- the family at a place of a row does not fit
abbrev pub Out-of : ℕ → Bool → List ℕ → ℕ → Type 0
Out-of row running xs k = Resolved (passing (kept running) (listed (of_family (family_at row k)))) (map operand xs) none_fits

-- the families that are tried, up to the place k, do not fit
abbrev pub Passed : ℕ → Bool → List ℕ → ℕ → ℕ → Type 0
Passed row running xs place k = (l : ℕ) → place ≤ l → l < k → Out-of row running xs l

-- a shape from 13 on has no form that a family has
pub other-form : (k : ℕ) → 13 ≤ k → form_of (shape_of_no k) ≡ 3
other-form k h = ap form_of (beyond k h)

module _ (row : ℕ) (running : Bool) (xs : List ℕ) where
  forms-are : 3 * form_of (shape_of (first_ty (map operand xs))) + form_of (shape_of (last_ty (map operand xs))) ≡ forms_of xs
  forms-are = λ j. 3 * form_of (first-at xs j) + form_of (last-at xs j)

  -- where an overload of the row fits its family is one that is tried
  record Tried-at (p : Overload) : Type 0 where
    k : ℕ
    below : k < length (row_at row).families
    among : Memᴰ p (of_family (family_at row k))
    first : T (ltb (form_of (shape_of_no (first_x xs / 7))) 3)
    last : T (ltb (form_of (shape_of_no (last_x xs / 7))) 3)
    its-way : Way (place_of (forms_of xs) (row_at row).families 0) (stop_of (row_at row).families) k

  tried-at : (p : Overload) → of_row (row_at row) p → T (fits p.params (map operand xs)) → Tried-at p
  tried-at p m h =
      let r = listed_of (row_at row).families p m in
      let f = family_at row r.0 in
      let g = good-in row r.0 in
      let q = of-family f p r.2 in
      let sized = (g.fair q.z q.in_sizes).sized in
      record {
        k = r.0;
        below = r.1;
        among = r.2;
        first = subst (λ (s : Shape). T (ltb (form_of s) 3)) (sym (first-shape f g p q (map operand xs) h) ∙ first-at xs) (form_small (first_param f).form q.z sized);
        last = subst (λ (s : Shape). T (ltb (form_of s) 3)) (sym (last-shape f g p q (map operand xs) h) ∙ last-at xs) (form_small (last_param f).form q.z sized);
        its-way =
            subst (λ (forms : ℕ). Way (place_of forms (row_at row).families 0) (stop_of (row_at row).families) r.0)
            (sym (forms-of-fit f g p q (map operand xs) h) ∙ forms-are)
            (way row r.0 q.z r.1 q.in_sizes);
      }

  nothing : ((p : Overload) → Tried-at p → T (kept running p) → T (fits p.params (map operand xs)) → ⊥) → Row-judged row running xs None
  unfolding Resolved judged_of
  nothing n p m h = n p (tried-at p m.0 h) m.1 h

  pub first-apart : 13 ≤ first_x xs / 7 → Row-judged row running xs None
  first-apart h = nothing (λ p t g k. let l = ltb→lt (form_of (shape_of_no (first_x xs / 7))) 3 t.first in let e = other-form (first_x xs / 7) h in omega arith)

  pub last_apart : 13 ≤ last_x xs / 7 → Row-judged row running xs None
  last_apart h = nothing (λ p t g k. let l = ltb→lt (form_of (shape_of_no (last_x xs / 7))) 3 t.last in let e = other-form (last_x xs / 7) h in omega arith)

  module _ (place : ℕ) (e : place ≡ place_of (forms_of xs) (row_at row).families 0) where
    pub no_place_lem : place ≡ no_place → Row-judged row running xs None
    no_place_lem q = nothing (λ p t g k. t.its-way.there (sym e ∙ q))

    out-of : (l : ℕ) → Out-of row running xs l → (p : Overload) → passing (kept running) (listed (of_family (family_at row l))) p → T (fits p.params (map operand xs)) → ⊥
    unfolding Resolved
    out-of l n p m h = n p m h

    module _ (some : place ≢ no_place) where
      place-there : place < length (row_at row).families
      place-there = let l = place-within (forms_of xs) (row_at row).families 0 (λ q. some (e ∙ q)) in omega (arith, l, e)

      -- the families that are tried: of the place, and up to the stop
      pub stop-there : (stop : ℕ) → stop ≡ stop_of (row_at row).families → (k : ℕ) → k < max stop (place + 1) → k < length (row_at row).families
      stop-there stop s k h = let l = stop-within (row_at row).families in let p = place-there in omega (arith, l)

      pub all-tried : (stop : ℕ) → stop ≡ stop_of (row_at row).families → Passed row running xs place (max stop (place + 1)) → Row-judged row running xs None
      all-tried stop s passed =
          nothing
          (λ p t d c.
          let a = t.its-way.from in
          out-of t.k
          (passed t.k (omega arith) (⊎_elim (λ b. omega arith) (λ b. omega arith) t.its-way.upto))
          p (t.among, d) c)

    pub pass : (k : ℕ) → Passed row running xs place k → Out-of row running xs k → Passed row running xs place (k + 1)
    pass k passed o l a b = ⊎_elim (λ q. subst (Out-of row running xs) (sym q) o) (passed l a) (eq-or-lt_of_le (le_of_suc-le-suc (subst (λ (m : ℕ). l < m) (add-one k) b)))

  -- the family that fits judges the row
  pub family-judges : (k : ℕ) → k < length (row_at row).families → (o : Out) → Resolved (passing (kept running) (listed (of_family (family_at row k)))) (map operand xs) (judged_of (Some o)) → Row-judged row running xs (Some o)
  unfolding Resolved judged_of
  family-judges k h o q = (q.0, row-of-family row (map operand xs) (kept running) k h q.0 q.1, q.2)
