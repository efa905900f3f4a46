-- Operands that are loaded: which number a reference has, and that a row judges types as it judges their numbers. Assumes nothing.
use Prim.Native.Nat.{ℕ, ◌+◌, ◌-◌, ◌*◌, ◌<◌}
use mathlib.Core.Path.{◌≡◌, refl, sym, ◌∙◌, ap}
use mathlib.Core.Logic.{◌≢◌}
use mathlib.Core.Bool.{Bool, true, false, ◌&&◌}
use mathlib.Core.List.{List, map}
use native.Mathlib.Omega.{arith}
use lib.Dec.{eqb}
use borrow.Author.Tests.{ltb-true, eq-eqb, ne_eqb}
use Rattle.conv.specs.Types.{Ty, formed, is_width}
use Rattle.conv.specs.Types.Ty.{scalar, vec, mat, array, runtime, atomic, ptr, ref, frexp, modf, exchange}
use Rattle.conv.specs.Rank.{shape_of, tag_of, is_reference, is_pointer}
use Rattle.overload.specs.Marks.{any_running, running_abstract}
use Rattle.overload.specs.Rows.{Row, row_at, Ruling, judge_row, judge_by}
use Rattle.overload.specs.Rows.Ruling.{by_row}
use Rattle.overload.specs.inner.Code.{operand, code_of, judge_kept}
use Rattle.overload.proofs.Marks.{judge-kept}
use Rattle.overload.proofs.Operands.{code-scalar, code-vec, code-mat, code_other, between, float_small, and_left, and_right, all_formed, codes_of, judge-types}
use Rattle.table.specs.Table.{kind_ref, kind_ptr, entry_at, Sound}
use Rattle.table.specs.Denote.{type_at, kind_of}
use Rattle.table.specs.Placing.{turned_down}
use Rattle.answer.specs.declared.Reason.TheVariants.{Reference, RunningAbstract}
use Rattle.table.proofs.FormedLaws.{formed-at}
use Rattle.table.proofs.TypeLaws.{kind-of}
use Rattle.ruled.specs.Call.{offends, judged_outcome, ruled_outcome}

-- a type's number is a reference's exactly when it is one, and below 128 in any case
pub code-ref : (t : Ty) → formed t ≡ true → (code_of t < 99) × (is_reference t ≡ eqb (code_of t) 98)
unfolding formed shape_of tag_of
code-ref (scalar s) h =
    let l = ltb-true s 7 h in
    let e = code-scalar s in
    (omega arith, sym (rw e (ne_eqb s 98 (λ q. omega arith))))
code-ref (vec n s) h =
    let l = ltb-true s 7 (and_right (is_width n) _ h) in
    let b = between n (and_left (is_width n) _ h) in
    let u = b.1 in
    let e = code-vec n s (and_left (is_width n) _ h) in
    (omega arith, sym (rw e (ne_eqb (7 * (n - 1) + s) 98 (λ q. omega arith))))
code-ref (mat c r s) h =
    let hc = and_left (is_width c) _ (and_left (is_width c && is_width r) _ h) in
    let hr = and_right (is_width c) _ (and_left (is_width c && is_width r) _ h) in
    let l = float_small s (and_right (is_width c && is_width r) _ h) in
    let b = between c hc in
    let d = between r hr in
    let u = b.1 in
    let v = d.1 in
    let e = code-mat c r s hc hr in
    (omega arith, sym (rw e (ne_eqb (7 * (3 * c + r - 4) + s) 98 (λ q. omega arith))))
code-ref (array k t) h = let e = code_other (array k t) refl in (omega arith, sym (rw e))
code-ref (runtime t) h = let e = code_other (runtime t) refl in (omega arith, sym (rw e))
code-ref (atomic s) h = let e = code_other (atomic s) refl in (omega arith, sym (rw e))
code-ref (ptr a b t) h = let e = code_other (ptr a b t) refl in (omega arith, sym (rw e))
code-ref (ref a b t) h = let e = code_other (ref a b t) refl in (omega arith, sym (rw e))
code-ref (frexp t) h = let e = code_other (frexp t) refl in (omega arith, sym (rw e))
code-ref (modf t) h = let e = code_other (modf t) refl in (omega arith, sym (rw e))
code-ref (exchange s) h = let e = code_other (exchange s) refl in (omega arith, sym (rw e))

-- whether an operand is a reference, by its number
module _ (w : List ℕ) (n : ℕ) (s : Sound w n) (t : ℕ) (l : t < n) (x : ℕ) (e : x ≡ code_of (type_at w t)) where
  pub by_number : is_reference (type_at w t) ≡ eqb x 98
  by_number = (code-ref (type_at w t) (formed-at w n s t l)).1 ∙ ap (λ (k : ℕ). eqb k 98) (sym e)

  pub offered : x ≡ 98 → is_reference (type_at w t) ≡ true
  offered h = by_number ∙ eq-eqb x 98 h

  pub not-offered : x ≢ 98 → is_reference (type_at w t) ≡ false
  not-offered h = by_number ∙ ne_eqb x 98 h

-- the kind word says whether a type is a pointer or a reference
module _ (w : List ℕ) (n : ℕ) (s : Sound w n) (t : ℕ) (l : t < n) where
  pointer-kind : (u : Ty) → formed u ≡ true → (is_pointer u ≡ eqb (kind_of u) kind_ptr) × (is_reference u ≡ eqb (kind_of u) kind_ref)
  unfolding formed tag_of kind_of
  pointer-kind (scalar k) h = let b = ltb-true k 7 h in (sym (ne_eqb k 12 (λ q. omega arith)), sym (ne_eqb k 13 (λ q. omega arith)))
  pointer-kind (vec k c) h = (refl, refl)
  pointer-kind (mat c r k) h = (refl, refl)
  pointer-kind (array k u) h = (refl, refl)
  pointer-kind (runtime u) h = (refl, refl)
  pointer-kind (atomic k) h = (refl, refl)
  pointer-kind (ptr a b u) h = (refl, refl)
  pointer-kind (ref a b u) h = (refl, refl)
  pointer-kind (frexp u) h = (refl, refl)
  pointer-kind (modf u) h = (refl, refl)
  pointer-kind (exchange k) h = (refl, refl)

  pub is_pointer_lem : is_pointer (type_at w t) ≡ eqb (entry_at w t).kind kind_ptr
  is_pointer_lem = (pointer-kind (type_at w t) (formed-at w n s t l)).0 ∙ ap (λ (k : ℕ). eqb k kind_ptr) (sym (kind-of w n s t l))

  pub is-reference : is_reference (type_at w t) ≡ eqb (entry_at w t).kind kind_ref
  is-reference = (pointer-kind (type_at w t) (formed-at w n s t l)).1 ∙ ap (λ (k : ℕ). eqb k kind_ref) (sym (kind-of w n s t l))

-- A RULED CALL by the numbers of its operands

module _ (place : ℕ) (w : List ℕ) (n : ℕ) (r : Ruling) (ts : List Ty) (ms : List Bool) where
  pub ruled-reference : offends r ts ≡ true → turned_down Reference place w n ≡ ruled_outcome place w n r ts ms
  unfolding ruled_outcome
  ruled-reference h = sym (rw h)

  pub ruled-clash : offends r ts ≡ false → running_abstract ts ms ≡ true → turned_down RunningAbstract place w n ≡ ruled_outcome place w n r ts ms
  unfolding ruled_outcome
  ruled-clash h k = sym (rw (h, k))

  pub ruled-judged : offends r ts ≡ false → running_abstract ts ms ≡ false → judged_outcome place w n (judge_by r ts ms) ≡ ruled_outcome place w n r ts ms
  unfolding ruled_outcome
  ruled-judged h k = sym (rw (h, k))

-- a row, by the number under which the code knows it
pub row-judged : (place : ℕ) (w : List ℕ) (n k : ℕ) (r : Row) (ts : List Ty) (ms : List Bool) (running : Bool) → row_at k ≡ r → all_formed ts ≡ true → offends (by_row r) ts ≡ false
    → running_abstract ts ms ≡ false → running ≡ any_running ms
    → judged_outcome place w n (judge_kept running (row_at k) (map operand (codes_of ts))) ≡ ruled_outcome place w n (by_row r) ts ms
unfolding judge_by
row-judged place w n k r ts ms running e f h u q =
    ap (judged_outcome place w n) (judge-types ts f k running ∙ (λ i. judge_kept (q i) (row_at k) ts) ∙ judge-kept k ts ms u ∙ ap (λ (x : Row). judge_row x ts ms) e) ∙ ruled-judged place w n (by_row r) ts ms h u
