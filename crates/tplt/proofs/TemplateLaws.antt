-- The entry of a template stands for its type and may be taken: every accepted type is formed. Assumes nothing.
use Prim.Native.Nat.{ℕ, ◌≤◌, ◌<◌}
use mathlib.Core.Path.{◌≡◌, refl, sym, ◌∙◌, ap}
use mathlib.Core.Bool.{Bool, true, false, ◌&&◌, ◌||◌, not, cond}
use mathlib.Core.List.{List}
use native.Mathlib.Omega.{arith}
use lib.Dec.{leb, ltb, eqb}
use lib.IntN.{ℤ, pos, negsuc}
use borrow.Author.Tests.{ltb-true, ltb-false, ne_eqb}
use Rattle.conv.specs.Types.{Ty, is_width, is_float, is_value, is_runtime, formed}
use Rattle.conv.specs.Types.Ty.{scalar, vec, mat, array, runtime, atomic, ptr, ref, frexp, modf, exchange}
use Rattle.table.specs.Table.{scalars, ceiling, entry_at, allowedb, Sound}
use Rattle.table.specs.Denote.{made, type_at, ty_of, kind_of}
use Rattle.table.specs.Enter.{EnterDone, entry_answer}
use Rattle.table.specs.Placing.{entering}
use Rattle.table.specs.declared.Entry.{Entry}
use Rattle.std.specs.Prelude.{Option, Some, None, Result, Ok, Err}
use Rattle.table.specs.declared.Entered.{Entered}
use Rattle.table.specs.declared.Lacks.{Lacks}
use Rattle.answer.specs.declared.TypeNo.{TypeNo}
use Rattle.answer.specs.declared.Answer.{Answer}
use Rattle.answer.specs.declared.Reason.{Reason}
use Rattle.answer.specs.declared.Reason.TheVariants.{Template, Count}
use Rattle.table.proofs.KindLaws.{split, clash}
use Rattle.table.proofs.TypeLaws.{kind-of}
use Rattle.table.proofs.FormedLaws.{clean, formed-at}
use Rattle.table.proofs.EnterLaws.{allow}
use Rattle.table.proofs.PlacingLaws.{enter-outcome}
use Rattle.tplt.specs.Params.{count_z, count_of}
use Rattle.tplt.specs.Templates.{is_concrete, is_matrix_component, is_atomic_component, is_element, component, vec_parsed, mat_parsed, atomic_parsed, of_count, counted, array_of_type, array_parsed, parsed_of, type_of, outcome_of, array_of}
use Rattle.tplt.specs.inner.Steps.{alone_in, vec_entry, mat_entry, atomic_entry, count_entry, array_entry, entry_in, Below, number_in, Fit, Outcomes}
use Rattle.tplt.specs.declared.head.Head.{Head}
use Rattle.tplt.specs.declared.head.Head.TheVariants.{Vector, Matrix, Atomic, Array}
use Rattle.tplt.specs.declared.param.TpltParam.{TpltParam}
use Rattle.tplt.specs.declared.param.TpltParam.TheVariants.{Typed, NoType, AbstractInt, I32, U32, Other}
use Rattle.tplt.specs.declared.param.Arguments.{Arguments}
use Rattle.tplt.specs.declared.param.Arguments.TheVariants.{One, Two}
use Rattle.tplt.specs.declared.Parsed.{Parsed}
use Rattle.tplt.specs.declared.Parsed.TheVariants.{OfVec, OfMat, OfAtomic, OfArray}
use Rattle.tplt.proofs.HeadLaws.{sized}

-- THE KIND OF AN ELEMENT

abbrev element_kind : ℕ → Bool
element_kind k = (not (eqb k 12) && not (eqb k 13)) && not (eqb k 10)

kind-element : (R : Ty) → formed R ≡ true → element_kind (kind_of R) ≡ is_element R
unfolding formed kind_of is_value is_runtime
kind-element (scalar s) f = let l = ltb-true s scalars f in rw (ne_eqb s 12 (omega arith), ne_eqb s 13 (omega arith), ne_eqb s 10 (omega arith))
kind-element (vec n s) f = refl
kind-element (mat c r s) f = refl
kind-element (array k t) f = refl
kind-element (runtime t) f = refl
kind-element (atomic s) f = refl
kind-element (ptr a b t) f = refl
kind-element (ref a b t) f = refl
kind-element (frexp t) f = refl
kind-element (modf t) f = refl
kind-element (exchange s) f = refl

pub element-at : (w : List ℕ) (n : ℕ) → Sound w n → (i : ℕ) → i < n → (e : Entry) → e ≡ entry_at w i → element_kind e.kind ≡ is_element (type_at w i)
element-at w n s i l e q = ap (λ (x : Entry). element_kind x.kind) q ∙ ap element_kind (kind-of w n s i l) ∙ kind-element (type_at w i) (formed-at w n s i l)

-- THE ENTRY OF A TEMPLATE

module _ (w : List ℕ) where
  array-type : (k : Option ℕ) (t : ℕ) → ty_of w (count_entry k t) ≡ array_of k (type_at w t)
  unfolding ty_of made
  array-type (Some k) t = refl
  array-type None t = refl

  entry-type : (p : Parsed) → ty_of w (entry_in p) ≡ type_of w p
  unfolding ty_of made type_of
  entry-type (OfVec t) = refl
  entry-type (OfMat t) = refl
  entry-type (OfAtomic t) = refl
  entry-type (OfArray t) = array-type t.n t.ty.0

  array_made : (k : Option ℕ) (t : ℕ) → made (count_entry k t) (type_at w (count_entry k t).elem) ≡ array_of k (type_at w t)
  unfolding made
  array_made (Some k) t = refl
  array_made None t = refl

  array-clean : (k : Option ℕ) (t : ℕ) → clean (count_entry k t) ≡ true
  unfolding clean
  array-clean (Some k) t = refl
  array-clean None t = refl

  array_elem : (n : ℕ) (k : Option ℕ) (t : ℕ) → t < n → (count_entry k t).elem < n
  array_elem n (Some k) t l = l
  array_elem n None t l = l

  module _ (n : ℕ) (s : Sound w n) where
    entry-allowed : (p : Parsed) → Fit w n p → allowedb w n (entry_in p) ≡ true
    unfolding clean made type_of allowedb
    entry-allowed (OfVec t) f = allow w n s (vec_entry t) refl f.below f.good
    entry-allowed (OfMat t) f = allow w n s (mat_entry t) refl f.below f.good
    entry-allowed (OfAtomic t) f = allow w n s (atomic_entry t) refl f.below f.good
    entry-allowed (OfArray t) f =
        allow w n s (array_entry t) (array-clean t.n t.ty.0) (array_elem n t.n t.ty.0 f.below) (ap formed (array_made t.n t.ty.0) ∙ f.good)

    -- what is asked of a template, and of its entry e
    module _ (p : Parsed) (f : Fit w n p) where
      pub word_below : number_in p < ceiling
      word_below = omega (arith, s.high, f.below)

      module _ (e : Entry) (eq : e ≡ entry_in p) where
        taken-allowed : allowedb w n e ≡ true
        taken-allowed = ap (allowedb w n) eq ∙ entry-allowed p f

        -- what entering it gives
        pub entered-outcome : (x : Result Entered Lacks) (v : List ℕ) → EnterDone w n e x v → (r : Answer) → r ≡ entry_answer 0 x n → Outcomes w n p r v
        unfolding outcome_of
        entered-outcome x v d r q =
            record { outcome = ap (λ (y : Answer). record { answer = y; words = v }) q ∙ enter-outcome 0 w n s e taken-allowed x v d ∙ ap (entering 0 w n) (ap (ty_of w) eq ∙ entry-type p) }

-- A LIST THAT IS ONE TYPE ALONE

module _ (test : ℕ → Bool) (make : TypeNo → Parsed) where
  pub component-none : (a : Option Arguments) (r : Reason) → alone_in a ≡ Err r → Err r ≡ component test make a
  component-none (Some (One t)) r h = absurd (let z : ◌≡◌ {A = ℕ} 0 1 = cc in omega arith)
  component-none (Some (Two t p)) r h = let e : r ≡ Template = cc in ap Err e
  component-none None r h = let e : r ≡ Template = cc in ap Err e

  -- the number that was found, and what the test said of it
  module _ (a : Option Arguments) (t : TypeNo) (found : alone_in a ≡ Ok t) (b : Bool) (told : b ≡ test t.0) where
    passes : component test make a ≡ cond b (Ok (make t)) (Err Template)
    passes = go a found
      where
        go : (a : Option Arguments) → alone_in a ≡ Ok t → component test make a ≡ cond b (Ok (make t)) (Err Template)
        go (Some (One u)) h = let e : u ≡ t = cc in rw (e, told)
        go (Some (Two u p)) h = absurd (let z : ◌≡◌ {A = ℕ} 0 1 = cc in omega arith)
        go None h = absurd (let z : ◌≡◌ {A = ℕ} 0 1 = cc in omega arith)

    pub component-made : b ≡ true → Ok (make t) ≡ component test make a
    component-made h = sym (passes ∙ rw h)

    pub component-wrong : b ≡ false → Err Template ≡ component test make a
    component-wrong h = sym (passes ∙ rw h)

-- EVERY ACCEPTED TYPE IS FORMED

small : (t : ℕ) → (a : Bool) → a ≡ true → (scalars ≤ t → a ≡ false) → ltb t scalars ≡ true
small t a h never = split (ltb t scalars) (λ b. b) (λ b. clash h (never (ltb-false t scalars b)))

pub concrete-scalar : (t : ℕ) → is_concrete t ≡ true → ltb t scalars ≡ true
concrete-scalar t h =
    small t (is_concrete t) h (λ l. rw (ne_eqb t 0 (omega arith), ne_eqb t 3 (omega arith), ne_eqb t 4 (omega arith), ne_eqb t 5 (omega arith), ne_eqb t 6 (omega arith)))

pub matrix-float : (t : ℕ) → is_matrix_component t ≡ true → is_float t ≡ true
matrix-float t h = go (eqb t 2) (eqb t 5) (eqb t 6) h
  where
    go : (a b c : Bool) → (b || c) ≡ true → (a || b || c) ≡ true
    go true true c h = refl
    go true false true h = refl
    go true false false h = clash h refl
    go false b c h = h

count-least : (z : ℤ) (k : ℕ) → count_z z ≡ Ok k → leb 1 k ≡ true
unfolding count_z
count-least (pos j) k h = go (leb 1 j) (leb j 4294967295) refl h
  where
    go : (a b : Bool) → leb 1 j ≡ a → cond (a && b) (Ok j) (Err Count) ≡ Ok k → leb 1 k ≡ true
    go true true e h = let q : j ≡ k = cc in ap (leb 1) (sym q) ∙ e
    go true false e h = absurd (let z : ◌≡◌ {A = ℕ} 0 1 = cc in omega arith)
    go false b e h = absurd (let z : ◌≡◌ {A = ℕ} 0 1 = cc in omega arith)
count-least (negsuc j) k h = absurd (let z : ◌≡◌ {A = ℕ} 0 1 = cc in omega arith)

literal-least : (p : TpltParam) (k : ℕ) → count_of p ≡ Ok k → leb 1 k ≡ true
unfolding count_of
literal-least (Typed t) k h = absurd (let z : ◌≡◌ {A = ℕ} 0 1 = cc in omega arith)
literal-least NoType k h = absurd (let z : ◌≡◌ {A = ℕ} 0 1 = cc in omega arith)
literal-least (AbstractInt z) k h = count-least z k h
literal-least (I32 z) k h = count-least z k h
literal-least (U32 j) k h = count-least (pos j) k h
literal-least Other k h = absurd (let z : ◌≡◌ {A = ℕ} 0 1 = cc in omega arith)

-- what is fit to be entered, if nothing is wrong
abbrev pub Fits : List ℕ → ℕ → Result Parsed Reason → Type 0
Fits w n (Ok p) = Fit w n p
Fits w n (Err r) = Unit {0}

module _ (w : List ℕ) (n : ℕ) (s : Sound w n) where
  vec-fit : (k : ℕ) → is_width k ≡ true → (t : TypeNo) → t.0 < n → (b : Bool) → is_concrete t.0 ≡ b → Fits w n (cond b (Ok (OfVec (record { n = k; ty = t }))) (Err Template))
  unfolding type_of formed
  vec-fit k h t l true e = record { below = l; good = rw (h, concrete-scalar t.0 e) }
  vec-fit k h t l false e = tt

  mat-fit : (c r : ℕ) → (is_width c && is_width r) ≡ true → (t : TypeNo) → t.0 < n → (b : Bool) → is_matrix_component t.0 ≡ b → Fits w n (cond b (Ok (OfMat (record { c = c; r = r; ty = t }))) (Err Template))
  unfolding type_of formed
  mat-fit c r h t l true e = record { below = l; good = rw h (matrix-float t.0 e) }
  mat-fit c r h t l false e = tt

  atomic-fit : (t : TypeNo) → t.0 < n → (b : Bool) → is_atomic_component t.0 ≡ b → Fits w n (cond b (Ok (OfAtomic (record { ty = t }))) (Err Template))
  unfolding type_of formed
  atomic-fit t l true e = record { below = l; good = e }
  atomic-fit t l false e = tt

  module _ (t : TypeNo) (l : t.0 < n) (e : is_element (type_at w t.0) ≡ true) where
    count-fit : (k : Result ℕ Reason) → ((j : ℕ) → k ≡ Ok j → leb 1 j ≡ true) → Fits w n (of_count t k)
    unfolding type_of formed
    count-fit (Ok k) q = record { below = l; good = rw (q k refl, e) (formed-at w n s t.0 l) }
    count-fit (Err r) q = tt

    counted-fit : (p : Option TpltParam) → Fits w n (counted t p)
    unfolding type_of formed
    counted-fit (Some p) = count-fit (count_of p) (literal-least p)
    counted-fit None = record { below = l; good = rw e (formed-at w n s t.0 l) }

  array_fit : (t : TypeNo) → t.0 < n → (p : Option TpltParam) → Fits w n (array_of_type w t p)
  unfolding array_of_type
  array_fit t l p = go (is_element (type_at w t.0)) refl
    where
      go : (b : Bool) → is_element (type_at w t.0) ≡ b → Fits w n (cond b (counted t p) (Err Template))
      go true e = counted-fit t l e p
      go false e = tt

  pub parsed-fit : (h : Option Head) → sized h ≡ true → (a : Option Arguments) → Below n a → Fits w n (parsed_of w h a)
  unfolding parsed_of vec_parsed mat_parsed atomic_parsed array_parsed
  parsed-fit (Some (Vector k)) g (Some (One t)) l = vec-fit k g t l (is_concrete t.0) refl
  parsed-fit (Some (Vector k)) g (Some (Two t p)) l = tt
  parsed-fit (Some (Vector k)) g None l = tt
  parsed-fit (Some (Matrix c r)) g (Some (One t)) l = mat-fit c r g t l (is_matrix_component t.0) refl
  parsed-fit (Some (Matrix c r)) g (Some (Two t p)) l = tt
  parsed-fit (Some (Matrix c r)) g None l = tt
  parsed-fit (Some Atomic) g (Some (One t)) l = atomic-fit t l (is_atomic_component t.0) refl
  parsed-fit (Some Atomic) g (Some (Two t p)) l = tt
  parsed-fit (Some Atomic) g None l = tt
  parsed-fit (Some Array) g (Some (One t)) l = array_fit t l None
  parsed-fit (Some Array) g (Some (Two t p)) l = array_fit t l (Some p)
  parsed-fit (Some Array) g None l = tt
  parsed-fit None g a l = tt
