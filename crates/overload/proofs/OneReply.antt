-- No second answer meets the promise of `operand_count` or of `resolve`: where a row gives a type its number is the one that stands for it. Assumes nothing.
use Rattle.std.proofs.Common.{◌≡◌, ℕ, ◌/◌, ◌%◌, ◌<◌, ◌≤◌, Bool, true, false, not, T, ltb, List, map, sym, refl, ap, ◌∙◌, subst, arith, eqb→eq, ltb-false, ltb-true}
use Rattle.conv.specs.Types.{Ty, formed, is_runtime, is_fract}
use Rattle.conv.specs.Types.Ty.{scalar, runtime, frexp, modf}
use Rattle.conv.specs.Rank.{both, Shape, form_of, tag_of, made}
use Rattle.conv.specs.Rank.Shape.{one, vector, matrix, other}
use Rattle.conv.proofs.Finite.{below}
use Rattle.conv.proofs.Made.{shape-made, component-made}
use Rattle.overload.specs.Overload.Judged.{gives}
use Rattle.overload.specs.Rows.{row_at, operand_count}
use Rattle.overload.specs.inner.Code.{shape_of_no, shape_no, operand, code_of, kept, judge_kept, out_of, judged_of}
use Rattle.overload.specs.declared.Out.{Out}
use Rattle.overload.specs.declared.Out.TheVariants.{Plain, Frexp, Modf}
use Rattle.std.specs.Prelude.{Option, Some, None}
use Rattle.overload.proofs.Operands.{code-of, and_left}
use Rattle.overload.proofs.Resolving.{shape-numbers, beyond}
use Rattle.overload.proofs.Results.{gives-formed}

-- a number below 91 is that of its type

small-form : (k : ℕ) → k < 13 → T (ltb (form_of (shape_of_no k)) 3)
unfolding both shape_of_no
small-form k h = below 13 (λ k. ltb (form_of (shape_of_no k)) 3) tt k h

number-back : (x : ℕ) → x < 91 → code_of (operand x) ≡ x
number-back x h =
    let k : x / 7 < 13 = omega arith in
    code-of (operand x) (x / 7) (x % 7) (ap shape_no (shape-made (shape_of_no (x / 7)) (x % 7)) ∙ eqb→eq _ _ (shape-numbers (x / 7) k)) k (component-made (shape_of_no (x / 7)) (x % 7) (small-form (x / 7) k))
    ∙ omega arith

other-operand : (x : ℕ) → 91 ≤ x → operand x ≡ runtime (scalar (x % 7))
unfolding made
other-operand x h = ap (λ (p : Shape). made p (x % 7)) (beyond (x / 7) (omega arith))

-- no array without count is a result, and none is a `fract`

runtime-out : (s : ℕ) → T (not (is_runtime (runtime (scalar s)))) → ⊥
unfolding is_runtime
runtime-out s t = t

false-true : false ≡ true → ⊥
false-true e = subst T (sym e) tt

fract-out : (s : ℕ) → is_fract (runtime (scalar s)) ≡ true → ⊥
unfolding is_fract
fract-out s e = false-true e

small_plain : (x : ℕ) → T (not (is_runtime (operand x))) → x < 91
small_plain x t = go (ltb x 91) refl
  where
    go : (b : Bool) → ltb x 91 ≡ b → x < 91
    go true e = ltb-true x 91 e
    go false e = absurd (runtime-out (x % 7) (subst (λ (y : Ty). T (not (is_runtime y))) (other-operand x (ltb-false x 91 e)) t))

small-fract : (x : ℕ) → is_fract (operand x) ≡ true → x < 91
small-fract x f = go (ltb x 91) refl
  where
    go : (b : Bool) → ltb x 91 ≡ b → x < 91
    go true e = ltb-true x 91 e
    go false e = absurd (fract-out (x % 7) (sym (ap is_fract (other-operand x (ltb-false x 91 e))) ∙ f))

same_number : (x y : ℕ) → x < 91 → y < 91 → operand x ≡ operand y → x ≡ y
same_number x y hx hy e = sym (number-back x hx) ∙ ap code_of e ∙ number-back y hy

-- the constructor of a bare result is none of a result type's
bare-tag : (p : Shape) (s : ℕ) → tag_of (made p s) < 8
unfolding made tag_of
bare-tag one s = omega arith
bare-tag (vector n) s = omega arith
bare-tag (matrix c r) s = omega arith
bare-tag other s = omega arith

bare_apart : (x k : ℕ) (t : Ty) → tag_of t ≡ k → 8 ≤ k → operand x ≡ t → ⊥
bare_apart x k t e h q = let b = bare-tag (shape_of_no (x / 7)) (x % 7) in let c = ap tag_of q ∙ e in omega arith

fract-of : (t : Ty) → formed (frexp t) ≡ true → is_fract t ≡ true
unfolding formed
fract-of t f = and_left (is_fract t) _ f

fract-of-modf : (t : Ty) → formed (modf t) ≡ true → is_fract t ≡ true
unfolding formed
fract-of-modf t f = and_left (is_fract t) _ f

out_one : (a b : Out) → formed (out_of a) ≡ true → T (not (is_runtime (out_of a))) → formed (out_of b) ≡ true → T (not (is_runtime (out_of b))) → out_of a ≡ out_of b → a ≡ b
unfolding out_of tag_of
out_one (Plain x) (Plain y) f t g u e = ap Plain (same_number x y (small_plain x t) (small_plain y u) e)
out_one (Plain x) (Frexp y) f t g u e = absurd (bare_apart x 8 (frexp (operand y)) refl (omega arith) e)
out_one (Plain x) (Modf y) f t g u e = absurd (bare_apart x 9 (modf (operand y)) refl (omega arith) e)
out_one (Frexp x) (Plain y) f t g u e = absurd (bare_apart y 8 (frexp (operand x)) refl (omega arith) (sym e))
out_one (Frexp x) (Frexp y) f t g u e = ap Frexp (same_number x y (small-fract x (fract-of (operand x) f)) (small-fract y (fract-of (operand y) g)) (cc))
out_one (Frexp x) (Modf y) f t g u e = absurd (let z : ◌≡◌ {A = ℕ} 8 9 = ap tag_of e in omega arith)
out_one (Modf x) (Plain y) f t g u e = absurd (bare_apart y 9 (modf (operand x)) refl (omega arith) (sym e))
out_one (Modf x) (Frexp y) f t g u e = absurd (let z : ◌≡◌ {A = ℕ} 9 8 = ap tag_of e in omega arith)
out_one (Modf x) (Modf y) f t g u e = ap Modf (same_number x y (small-fract x (fract-of-modf (operand x) f)) (small-fract y (fract-of-modf (operand y) g)) (cc))

gives_one : {R Q : Ty} → gives R ≡ gives Q → R ≡ Q
gives_one e = cc

pub resolve-one : (row : ℕ) (running : Bool) (xs : List ℕ) (r s : Option Out) → judged_of r ≡ judge_kept running (row_at row) (map operand xs) → judged_of s ≡ judge_kept running (row_at row) (map operand xs) → r ≡ s
unfolding judged_of
resolve-one row running xs (Some a) (Some b) p q =
    let f = gives-formed row (kept running) (map operand xs) (out_of a) (sym p) in
    let g = gives-formed row (kept running) (map operand xs) (out_of b) (sym q) in
    ap Some (out_one a b f.0 f.1 g.0 g.1 (gives_one (p ∙ sym q)))
resolve-one row running xs (Some a) None p q = absurd (let e = p ∙ sym q in let z : ◌≡◌ {A = ℕ} 0 1 = cc in omega arith)
resolve-one row running xs None (Some b) p q = absurd (let e = p ∙ sym q in let z : ◌≡◌ {A = ℕ} 0 1 = cc in omega arith)
resolve-one row running xs None None p q = refl

pub operand-count-one : (row r s : ℕ) → r ≡ operand_count (row_at row) → s ≡ operand_count (row_at row) → r ≡ s
operand-count-one row r s p q = p ∙ sym q
