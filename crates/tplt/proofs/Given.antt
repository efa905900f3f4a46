-- Which type each head and list gives, and which refusal, over a sound table of n entries. Assumes nothing.
use Prim.Native.Nat.{ℕ, ◌≤◌, ◌<◌}
use mathlib.Core.Path.{◌≡◌, refl, sym, ◌∙◌, ap, subst}
use mathlib.Core.Bool.{Bool, true, false, cond}
use mathlib.Core.List.{List, [], ◌∷◌}
use native.Mathlib.Omega.{arith}
use lib.Dec.{leb, eqb}
use lib.IntN.{ℤ, pos, negsuc}
use borrow.Author.Tests.{lt-ltb, ltb-true, le-leb, lt-leb, leb-true, eqb-true, eqb-false, ne_eqb}
use Rattle.conv.specs.Types.{is_width}
use Rattle.conv.specs.Types.Ty.{vec, mat, array, runtime, atomic}
use Rattle.table.specs.Table.{scalars, soundb}
use Rattle.table.specs.Denote.{type_at}
use Rattle.table.specs.Placing.{turned_down, entering}
use Rattle.answer.specs.declared.Reason.TheVariants.{Unknown, Template, Count}
use Rattle.text.specs.Text.{ascii}
use Rattle.tplt.specs.Heads.{head_name, head_of}
use Rattle.tplt.specs.Params.{type_param, i32_param, u32_param, param_of, params_of, is_known, is_typed, types_known, arguments_of, count_z, count_of}
use Rattle.tplt.specs.Templates.{is_concrete, is_matrix_component, is_atomic_component, is_element, vec_parsed, mat_parsed, atomic_parsed, array_of_type, array_parsed, parsed_of, type_of, outcome_of, template_outcome}
use Rattle.tplt.specs.declared.head.Head.{Head}
use Rattle.tplt.specs.declared.head.Head.TheVariants.{Vector, Matrix, Atomic, Array}
use Rattle.tplt.specs.declared.param.TpltParam.{TpltParam}
use Rattle.tplt.specs.declared.param.TpltParam.TheVariants.{Typed, NoType, AbstractInt, I32, U32, Other}
use Rattle.tplt.specs.declared.param.Arguments.{Arguments}
use Rattle.tplt.specs.declared.param.Arguments.TheVariants.{One, Two}
use Rattle.std.specs.Prelude.{Option, Some, None, Result, Ok, Err}
use Rattle.answer.specs.declared.Reason.{Reason}
use Rattle.tplt.specs.declared.Parsed.{Parsed}
use Rattle.tplt.specs.declared.Parsed.TheVariants.{OfVec, OfMat, OfAtomic, OfArray}
use Rattle.table.proofs.SoundLaws.{and_left, and_right, sound-of}
use Rattle.table.proofs.KindLaws.{split, clash, float-scalar, int-scalar}
use Rattle.tplt.proofs.ParamLaws.{list-one, list-two}
use Rattle.tplt.proofs.TemplateLaws.{concrete-scalar, matrix-float}
use Rattle.tplt.proofs.OutcomeLaws.{parsed-outcome}

-- THE HEADS ARE READ BY THEIR NAMES

by_width : (P : ℕ → Type 0) → P 2 → P 3 → P 4 → (k : ℕ) → is_width k ≡ true → P k
by_width P a b c k h =
    let lo = leb-true 2 k (and_left _ _ h) in
    let hi = leb-true k 4 (and_right (leb 2 k) _ h) in
    split (eqb k 2) (λ e. subst P (sym (eqb-true k 2 e)) a) (λ e.
    split (eqb k 3) (λ f. subst P (sym (eqb-true k 3 f)) b) (λ f.
    let p = eqb-false k 2 e in
    let q = eqb-false k 3 f in
    let z : k ≡ 4 = omega arith in
    subst P (sym z) c))

pub vec-name : (k : ℕ) → is_width k ≡ true → head_of (head_name (Vector k)) ≡ Some (Vector k)
unfolding head_of ascii
vec-name k h = by_width (λ (k : ℕ). head_of (head_name (Vector k)) ≡ Some (Vector k)) refl refl refl k h

pub mat-name : (c r : ℕ) → is_width c ≡ true → is_width r ≡ true → head_of (head_name (Matrix c r)) ≡ Some (Matrix c r)
unfolding head_of ascii
mat-name c r hc hr =
    by_width (λ (c : ℕ). head_of (head_name (Matrix c r)) ≡ Some (Matrix c r))
    (by_width (λ (r : ℕ). head_of (head_name (Matrix 2 r)) ≡ Some (Matrix 2 r)) refl refl refl r hr)
    (by_width (λ (r : ℕ). head_of (head_name (Matrix 3 r)) ≡ Some (Matrix 3 r)) refl refl refl r hr)
    (by_width (λ (r : ℕ). head_of (head_name (Matrix 4 r)) ≡ Some (Matrix 4 r)) refl refl refl r hr) c hc

pub atomic-name : head_of (head_name Atomic) ≡ Some Atomic
unfolding head_of ascii
atomic-name = refl

pub array-name : head_of (head_name Array) ≡ Some Array
unfolding head_of ascii
array-name = refl

-- THE COUNT OF A LITERAL

-- a literal is no type
literal-known : (p : TpltParam) → is_typed p ≡ false → is_known p ≡ true
literal-known (Typed t) h = clash refl h
literal-known NoType h = clash refl h
literal-known (AbstractInt z) h = refl
literal-known (I32 z) h = refl
literal-known (U32 k) h = refl
literal-known Other h = refl

module _ (n : ℕ) where
  -- 1 to 4,294,967,295 pass
  module _ (k : ℕ) (one : 1 ≤ k) where
    pub abstract-count : k ≤ 4294967295 → count_of (param_of n (pos 1) (pos k)) ≡ Ok k
    unfolding param_of count_of count_z
    abstract-count l = rw (le-leb 1 k one, le-leb k 4294967295 l)

    pub i32-count : k ≤ 2147483647 → count_of (param_of n (pos 2) (pos k)) ≡ Ok k
    unfolding param_of i32_param count_of count_z
    i32-count l = rw (le-leb k 2147483647 l, le-leb 1 k one, le-leb k 4294967295 (omega arith))

    pub u32-count : k ≤ 4294967295 → count_of (param_of n (pos 3) (pos k)) ≡ Ok k
    unfolding param_of u32_param count_of count_z
    u32-count l = rw (le-leb k 4294967295 l, le-leb 1 k one, le-leb k 4294967295 l)

  -- 0 and every negative number do not, of any tag that is a literal's
  pub abstract-negative : (k : ℕ) → count_of (param_of n (pos 1) (negsuc k)) ≡ Err Count
  unfolding param_of count_of count_z
  abstract-negative k = refl

  pub i32-negative : (k : ℕ) → count_of (param_of n (pos 2) (negsuc k)) ≡ Err Count
  unfolding param_of i32_param count_of count_z
  i32-negative k = go (leb k 2147483647)
    where
      go : (b : Bool) → count_of (cond b (I32 (negsuc k)) Other) ≡ Err Count
      go true = refl
      go false = refl

  pub zero-counts : (count_of (param_of n (pos 1) (pos 0)) ≡ Err Count) × (count_of (param_of n (pos 2) (pos 0)) ≡ Err Count) × (count_of (param_of n (pos 3) (pos 0)) ≡ Err Count)
  unfolding param_of i32_param u32_param count_of count_z
  zero-counts = (refl, refl, refl)

  -- nor one above 4,294,967,295, nor another literal
  pub too_many : (k : ℕ) → 4294967295 < k → count_of (param_of n (pos 1) (pos k)) ≡ Err Count
  unfolding param_of count_of count_z
  too_many k l = rw (le-leb 1 k (omega arith), lt-leb k 4294967295 l)

  pub other-literal : (t : ℕ) → 4 ≤ t → (z : ℤ) → (param_of n (pos t) z ≡ Other) × (count_of (param_of n (pos t) z) ≡ Err Count)
  unfolding param_of count_of
  other-literal t l z =
      let a = ne_eqb t 0 (omega arith) in
      let b = ne_eqb t 1 (omega arith) in
      let c = ne_eqb t 2 (omega arith) in
      let d = ne_eqb t 3 (omega arith) in
      (rw (a, b, c, d), rw (a, b, c, d))

-- WHAT A CALL GIVES

amiss-wrong : (w : List ℕ) (h : Head) → parsed_of w (Some h) None ≡ Err Template
unfolding parsed_of vec_parsed mat_parsed atomic_parsed array_parsed
amiss-wrong w (Vector k) = refl
amiss-wrong w (Matrix c r) = refl
amiss-wrong w Atomic = refl
amiss-wrong w Array = refl

abbrev pub type_arg : ℕ → List ℤ
type_arg t = pos 0 ∷ pos t ∷ []

abbrev pub type_and_literal : ℕ → ℤ → ℤ → List ℤ
type_and_literal t tag value = pos 0 ∷ pos t ∷ tag ∷ value ∷ []

module _ (w : List ℕ) (n : ℕ) (sound : soundb w n ≡ true) where
  given : (head : List ℕ) (args : List ℤ) (h : Option Head) (a : Option Arguments) (p : Result Parsed Reason)
      → types_known (params_of n args) ≡ true → head_of head ≡ h → arguments_of n args ≡ a → parsed_of w h a ≡ p → template_outcome w n head args ≡ outcome_of w n p
  given head args h a p k hq aq pq = parsed-outcome w n head args sound k ∙ (λ i. outcome_of w n (parsed_of w (hq i) (aq i))) ∙ ap (outcome_of w n) pq

  module _ (t : ℕ) (l : t < n) where
    first-type : param_of n (pos 0) (pos t) ≡ Typed (record { 0 = t })
    unfolding param_of type_param
    first-type = rw (lt-ltb t n l)

    one_known : types_known (params_of n (type_arg t)) ≡ true
    unfolding types_known params_of
    one_known = rw first-type

    one_list : arguments_of n (type_arg t) ≡ Some (One (record { 0 = t }))
    one_list = list-one n (type_arg t) refl ∙ rw first-type

    module _ (tag z : ℤ) (literal : is_typed (param_of n tag z) ≡ false) where
      two-known : types_known (params_of n (type_and_literal t tag z)) ≡ true
      unfolding types_known params_of
      two-known = rw (first-type, literal-known (param_of n tag z) literal)

      two-list : arguments_of n (type_and_literal t tag z) ≡ Some (Two (record { 0 = t }) (param_of n tag z))
      two-list = list-two n (type_and_literal t tag z) refl ∙ rw (first-type, literal)

  low : (s : ℕ) → s < scalars → s < n
  low s a = let b = (sound-of w n sound).low in omega arith

  -- vec: bool, i32, u32, f32, f16
  pub vec-given : (k s : ℕ) → is_width k ≡ true → is_concrete s ≡ true → template_outcome w n (head_name (Vector k)) (type_arg s) ≡ entering 0 w n (vec k s)
  unfolding parsed_of vec_parsed outcome_of type_of
  vec-given k s h c =
      let l = low s (ltb-true s scalars (concrete-scalar s c)) in
      given (head_name (Vector k)) (type_arg s) (Some (Vector k)) (Some (One (record { 0 = s }))) (Ok (OfVec (record { n = k; ty = record { 0 = s } }))) (one_known s l) (vec-name k h) (one_list s l) (rw c)

  -- mat: f32, f16
  pub mat-given : (c r s : ℕ) → is_width c ≡ true → is_width r ≡ true → is_matrix_component s ≡ true
      → template_outcome w n (head_name (Matrix c r)) (type_arg s) ≡ entering 0 w n (mat c r s)
  unfolding parsed_of mat_parsed outcome_of type_of
  mat-given c r s hc hr m =
      let l = low s (float-scalar s (matrix-float s m)) in
      given (head_name (Matrix c r)) (type_arg s) (Some (Matrix c r)) (Some (One (record { 0 = s }))) (Ok (OfMat (record { c = c; r = r; ty = record { 0 = s } }))) (one_known s l) (mat-name c r hc hr) (one_list s l) (rw m)

  -- atomic: i32, u32
  pub atomic-given : (s : ℕ) → is_atomic_component s ≡ true → template_outcome w n (head_name Atomic) (type_arg s) ≡ entering 0 w n (atomic s)
  unfolding parsed_of atomic_parsed outcome_of type_of
  atomic-given s a =
      let l = low s (int-scalar s a) in
      given (head_name Atomic) (type_arg s) (Some Atomic) (Some (One (record { 0 = s }))) (Ok (OfAtomic (record { ty = record { 0 = s } }))) (one_known s l) atomic-name (one_list s l) (rw a)

  module _ (t : ℕ) (l : t < n) where
    -- array: a type alone
    pub array-alone : is_element (type_at w t) ≡ true → template_outcome w n (head_name Array) (type_arg t) ≡ entering 0 w n (runtime (type_at w t))
    unfolding parsed_of array_parsed array_of_type outcome_of type_of
    array-alone e =
        given (head_name Array) (type_arg t) (Some Array) (Some (One (record { 0 = t }))) (Ok (OfArray (record { n = None; ty = record { 0 = t } }))) (one_known t l) array-name (one_list t l) (rw e)

    module _ (tag z : ℤ) (literal : is_typed (param_of n tag z) ≡ false) where
      by-list : (p : Result Parsed Reason) → parsed_of w (Some Array) (Some (Two (record { 0 = t }) (param_of n tag z))) ≡ p → template_outcome w n (head_name Array) (type_and_literal t tag z) ≡ outcome_of w n p
      by-list p q =
          given (head_name Array) (type_and_literal t tag z) (Some Array) (Some (Two (record { 0 = t }) (param_of n tag z))) p (two-known t l tag z literal) array-name (two-list t l tag z literal) q

      -- or with a literal that is a count
      pub array-counted : (k : ℕ) → is_element (type_at w t) ≡ true → count_of (param_of n tag z) ≡ Ok k
          → template_outcome w n (head_name Array) (type_and_literal t tag z) ≡ entering 0 w n (array k (type_at w t))
      unfolding parsed_of array_parsed array_of_type outcome_of type_of
      array-counted k e c = by-list (Ok (OfArray (record { n = Some k; ty = record { 0 = t } }))) (rw (e, c))

      -- a literal that is none: 6
      pub array-miscounted : is_element (type_at w t) ≡ true → count_of (param_of n tag z) ≡ Err Count
          → template_outcome w n (head_name Array) (type_and_literal t tag z) ≡ turned_down Count 0 w n
      unfolding parsed_of array_parsed array_of_type outcome_of
      array-miscounted e c = by-list (Err Count) (rw (e, c))

      -- of a pointer, a reference or an array without count: 5, whatever the literal
      pub array-forbidden : is_element (type_at w t) ≡ false → template_outcome w n (head_name Array) (type_and_literal t tag z) ≡ turned_down Template 0 w n
      unfolding parsed_of array_parsed array_of_type outcome_of
      array-forbidden e = by-list (Err Template) (rw e)

  -- any other head: 4, whatever the list
  pub unknown-head : (head : List ℕ) (args : List ℤ) → types_known (params_of n args) ≡ true → head_of head ≡ None → template_outcome w n head args ≡ turned_down Unknown 0 w n
  unfolding parsed_of outcome_of
  unknown-head head args k h = given head args None (arguments_of n args) (Err Unknown) k h refl refl

  -- a list that is neither a type alone nor a type and a literal: 5 for every head
  pub wrong-list : (head : List ℕ) (args : List ℤ) (h : Head) → types_known (params_of n args) ≡ true → head_of head ≡ Some h → arguments_of n args ≡ None
      → template_outcome w n head args ≡ turned_down Template 0 w n
  unfolding outcome_of
  wrong-list head args h k q a = given head args (Some h) None (Err Template) k q a (amiss-wrong w h)

  -- any other type: 5
  module _ (t : ℕ) (l : t < n) where
    by-type : (head : List ℕ) (h : Head) → head_of head ≡ Some h → (p : Result Parsed Reason) → parsed_of w (Some h) (Some (One (record { 0 = t }))) ≡ p → template_outcome w n head (type_arg t) ≡ outcome_of w n p
    by-type head h hq p pq = given head (type_arg t) (Some h) (Some (One (record { 0 = t }))) p (one_known t l) hq (one_list t l) pq

    pub vec-refused : (k : ℕ) → is_width k ≡ true → is_concrete t ≡ false → template_outcome w n (head_name (Vector k)) (type_arg t) ≡ turned_down Template 0 w n
    unfolding parsed_of vec_parsed outcome_of
    vec-refused k h c = by-type (head_name (Vector k)) (Vector k) (vec-name k h) (Err Template) (rw c)

    pub mat-refused : (c r : ℕ) → is_width c ≡ true → is_width r ≡ true → is_matrix_component t ≡ false
        → template_outcome w n (head_name (Matrix c r)) (type_arg t) ≡ turned_down Template 0 w n
    unfolding parsed_of mat_parsed outcome_of
    mat-refused c r hc hr m = by-type (head_name (Matrix c r)) (Matrix c r) (mat-name c r hc hr) (Err Template) (rw m)

    pub atomic-refused : is_atomic_component t ≡ false → template_outcome w n (head_name Atomic) (type_arg t) ≡ turned_down Template 0 w n
    unfolding parsed_of atomic_parsed outcome_of
    atomic-refused a = by-type (head_name Atomic) Atomic atomic-name (Err Template) (rw a)

    pub array-refused : is_element (type_at w t) ≡ false → template_outcome w n (head_name Array) (type_arg t) ≡ turned_down Template 0 w n
    unfolding parsed_of array_parsed array_of_type outcome_of
    array-refused e = by-type (head_name Array) Array array-name (Err Template) (rw e)

    -- "A count of -3 or 0 is refused with 6, as is one above 4,294,967,295 or another literal; 1 and 4,294,967,295 pass"
    module _ (e : is_element (type_at w t) ≡ true) where
      no-type : (z : ℤ) → is_typed (param_of n (pos 1) z) ≡ false
      unfolding param_of
      no-type z = refl

      pub count-minus-three : template_outcome w n (head_name Array) (type_and_literal t (pos 1) (negsuc 2)) ≡ turned_down Count 0 w n
      count-minus-three = array-miscounted t l (pos 1) (negsuc 2) (no-type (negsuc 2)) e (abstract-negative n 2)

      pub count-nought : template_outcome w n (head_name Array) (type_and_literal t (pos 1) (pos 0)) ≡ turned_down Count 0 w n
      count-nought = array-miscounted t l (pos 1) (pos 0) (no-type (pos 0)) e (zero-counts n).0

      pub count-above : template_outcome w n (head_name Array) (type_and_literal t (pos 1) (pos 4294967296)) ≡ turned_down Count 0 w n
      count-above = array-miscounted t l (pos 1) (pos 4294967296) (no-type (pos 4294967296)) e (too_many n 4294967296 (omega arith))

      pub count-one : template_outcome w n (head_name Array) (type_and_literal t (pos 1) (pos 1)) ≡ entering 0 w n (array 1 (type_at w t))
      count-one = array-counted t l (pos 1) (pos 1) (no-type (pos 1)) 1 e (abstract-count n 1 (omega arith) (omega arith))

      pub count_most : template_outcome w n (head_name Array) (type_and_literal t (pos 1) (pos 4294967295)) ≡ entering 0 w n (array 4294967295 (type_at w t))
      count_most = array-counted t l (pos 1) (pos 4294967295) (no-type (pos 4294967295)) 4294967295 e (abstract-count n 4294967295 (omega arith) (omega arith))
