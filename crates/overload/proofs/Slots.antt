-- One parameter in the code's numbers: what an operand's conversion to it comes to, and the join of scalars. Assumes nothing.
use Rattle.std.proofs.Common.{◌≡◌, ℕ, zero, suc, ◌+◌, ◌*◌, ◌/◌, ◌%◌, ◌<◌, Bool, true, false, cond, not, T, eqb, ltb, ◌≢◌, List, get_or, sym, refl, ap, ◌∙◌, ap₂, le_of_suc-le-suc, not-suc-le-zero, arith, ltb→lt, lt-ltb, eq-eqb, ne_eqb, eqb-true}
use borrow.Author.Tests.{eqb-false}
use Rattle.conv.specs.Rank.{pick, both, none, rank_of, Shape, component_of, same_shape, converts, made, common_of, accepts}
use Rattle.conv.specs.Rank.Shape.{one, vector, matrix, other}
use Rattle.conv.proofs.Finite.{same, same-eq, below₃}
use Rattle.conv.proofs.Ranks.{join}
use Rattle.conv.proofs.Made.{shape-made}
use Rattle.overload.specs.Overload.{or}
use Rattle.overload.specs.Rows.{Form, Component, form_at, component_at, pattern_ty, N}
use Rattle.overload.specs.Rows.Form.{sized, single, vec_c, vec_r, left, right, turned}
use Rattle.overload.specs.Rows.Component.{of_t, of_i, exp_t, just}
use Rattle.overload.specs.inner.Code.{shape_of_no, shape_no, operand, size_of_no, form_no, form_of_no, component_no, component_of_no, pattern_of, asked_of, family_of, encode, digit_of, reaches, slot_t, slot_i}
use Rattle.overload.proofs.Preference.{Sized, fine, slot-cost}

-- THE NUMBERS OF A PATTERN give it back

pub form-back : (f : Form) → form_of_no (form_no f) ≡ f
unfolding form_of_no form_no
form-back sized = refl
form-back single = refl
form-back vec_c = refl
form-back vec_r = refl
form-back left = refl
form-back right = refl
form-back turned = refl

pub form-below : (f : Form) → form_no f < 7
unfolding form_no
form-below sized = omega arith
form-below single = omega arith
form-below vec_c = omega arith
form-below vec_r = omega arith
form-below left = omega arith
form-below right = omega arith
form-below turned = omega arith

just-back : (s : ℕ) → s < 7 → component_of_no s ≡ just s
unfolding component_of_no
just-back s l = rw (ne_eqb s 9 (λ e. omega arith), ne_eqb s 7 (λ e. omega arith), ne_eqb s 8 (λ e. omega arith))

pub component-back : (set : List ℕ) (c : Component) → T (fine set c) → component_of_no (component_no c) ≡ c
unfolding component_of_no component_no
component-back set of_t h = refl
component-back set of_i h = refl
component-back set exp_t h = refl
component-back set (just s) h = just-back s (ltb→lt s 7 h)

pub component-below : (set : List ℕ) (c : Component) → T (fine set c) → component_no c < 10
unfolding component_no
component-below set of_t h = omega arith
component-below set of_i h = omega arith
component-below set exp_t h = omega arith
component-below set (just s) h = let l = ltb→lt s 7 h in omega arith

-- the digits of a family are its parameters'
pub form-digit : (f k : ℕ) → k < 4 → digit_of f (2 * k + 1) ≡ form_no (get_or (family_of f).params k N).form
unfolding encode
form-digit f zero h = refl
form-digit f (suc zero) h = refl
form-digit f (suc (suc zero)) h = refl
form-digit f (suc (suc (suc zero))) h = refl
form-digit f (suc (suc (suc (suc k)))) h = absurd (not-suc-le-zero (le_of_suc-le-suc (le_of_suc-le-suc (le_of_suc-le-suc (le_of_suc-le-suc h)))))

pub component-digit : (f k : ℕ) → k < 4 → digit_of f (2 * k + 2) ≡ component_no (get_or (family_of f).params k N).of
unfolding encode
component-digit f zero h = refl
component-digit f (suc zero) h = refl
component-digit f (suc (suc zero)) h = refl
component-digit f (suc (suc (suc zero))) h = refl
component-digit f (suc (suc (suc (suc k)))) h = absurd (not-suc-le-zero (le_of_suc-le-suc (le_of_suc-le-suc (le_of_suc-le-suc (le_of_suc-le-suc h)))))

-- THE SHAPE that a form asks at a size is the one that the table has: computed at every form, size and shape

shape_test : ℕ → ℕ → ℕ → Bool
shape_test form n k = same (same_shape (shape_of_no k) (form_at (form_of_no form) (size_of_no n))) (eqb k (asked_of form n))

shape-tests : (form n k : ℕ) → form < 7 → n < 41 → k < 37 → T (shape_test form n k)
unfolding shape_test same both shape_of_no shape_no size_of_no form_of_no form_at asked_of
shape-tests form n k hf hn hk = below₃ 7 41 37 shape_test tt form n k hf hn hk

pub shape-test : (form n k : ℕ) → form < 7 → n < 41 → k < 37 → same_shape (shape_of_no k) (form_at (form_of_no form) (size_of_no n)) ≡ eqb k (asked_of form n)
unfolding shape_test
shape-test form n k hf hn hk = same-eq _ _ (shape-tests form n k hf hn hk)

-- where shapes agree the component is the operand's
pub by_shape : (s : Shape) (a : ℕ) (p : Shape) (c : ℕ) → pick (same_shape s p) (rank_of (component_of (made s a)) c) none ≡ pick (same_shape s p) (rank_of a c) none
unfolding made component_of both
by_shape one a p c = refl
by_shape (vector n) a p c = refl
by_shape (matrix d r) a p c = refl
by_shape other a p c = refl

pick-reaches : (b : Bool) (r : ℕ) → ltb (pick b r none) none ≡ both b (ltb r none)
unfolding both
pick-reaches true r = refl
pick-reaches false r = refl

module _ (set : List ℕ) (x n t i form of : ℕ) (hx : x < 256) (hn : n < 41) (hz : Sized (size_of_no n)) (ht : t < 7) (hi : i < 7) (hf : form < 7) (hc : T (fine set (component_of_no of))) where
  -- does the operand x convert to the pattern?
  pub slot-no : converts (operand x) (pattern_ty (size_of_no n) t i (pattern_of form of)) ≡ both (eqb (x / 7) (asked_of form n)) (reaches (x % 7) (component_at (component_of_no of) t i))
  slot-no =
      ap (λ (r : ℕ). ltb r none)
      (slot-cost set (operand x) (size_of_no n) t i (pattern_of form of) hz ht hi hc
      ∙ (λ j. pick (same_shape (shape-made (shape_of_no (x / 7)) (x % 7) j) (form_at (form_of_no form) (size_of_no n))) (rank_of (component_of (operand x)) (component_at (component_of_no of) t i)) none)
      ∙ by_shape (shape_of_no (x / 7)) (x % 7) (form_at (form_of_no form) (size_of_no n)) (component_at (component_of_no of) t i)
      ∙ ap (λ (b : Bool). pick b (rank_of (x % 7) (component_at (component_of_no of) t i)) none) (shape-test form n (x / 7) hf hn (omega arith)))
      ∙ pick-reaches (eqb (x / 7) (asked_of form n)) (rank_of (x % 7) (component_at (component_of_no of) t i))

-- a scalar at a component: its set of T and its set of I
both_yes : (a : Bool) → a ≡ both a true
unfolding both
both_yes true = refl
both_yes false = refl

alone : (c : Component) (s t i : ℕ) → (c ≡ of_i → ⊥) → component_at c t i ≡ component_at c t 0
unfolding component_at
alone of_t s t i h = refl
alone of_i s t i h = absurd (h refl)
alone exp_t s t i h = refl
alone (just k) s t i h = refl

is_i-no : ℕ → Component → ℕ
is_i-no k of_t = 0
is_i-no k of_i = 1
is_i-no k exp_t = 0
is_i-no k (just s) = 0

of-no : (of : ℕ) → of ≢ 7 → component_of_no of ≡ of_i → ⊥
unfolding component_of_no is_i-no
of-no of h e = go (eqb of 9) (eqb of 8) (sym (rw (ne_eqb of 7 h)) ∙ e)
  where
    go : (a b : Bool) → cond a of_t (cond b exp_t (just of)) ≡ of_i → ⊥
    go true b q = let z = ap (is_i-no 0) q in omega arith
    go false true q = let z = ap (is_i-no 0) q in omega arith
    go false false q = let z = ap (is_i-no 0) q in omega arith

pub slot-sets : (of s t i : ℕ) → reaches s (component_at (component_of_no of) t i) ≡ both (slot_t of s t) (slot_i of s i)
unfolding both or component_of_no component_at
slot-sets of s t i = go (eqb of 7) refl
  where
    go : (b : Bool) → eqb of 7 ≡ b → reaches s (component_at (component_of_no of) t i) ≡ both (or b (reaches s (component_at (component_of_no of) t 0))) (or (not b) (reaches s i))
    go true e = ap (λ (c : Component). reaches s (component_at c t i)) (ap component_of_no (eqb-true of 7 e))
    go false e = ap (reaches s) (alone (component_of_no of) s t i (of-no of (eqb-false of 7 e))) ∙ both_yes _

-- JOINS

pub both-same : (a : Bool) → both a a ≡ a
unfolding both
both-same true = refl
both-same false = refl

-- a plain number of a width accepts what its component converts to
pub plain-accepts : (b s t : ℕ) → b < 28 → b % 7 ≡ s → accepts b t ≡ reaches s t
unfolding both
plain-accepts b s t h e = rw (lt-ltb b 28 h, e)

-- the common type of two scalars is that of two of a width
module _ (base j s t : ℕ) (hb : base < 22) (wb : base / 7 * 7 ≡ base) (hj : j < 7) (hs : s < 7) (ht : t < 7) where
  pub common-reaches : accepts (common_of (base + j) (base + s)) t ≡ both (reaches j t) (reaches s t)
  common-reaches =
      join (base + j) (base + s) (omega arith) (omega arith) (omega arith) t ht
      ∙ ap₂ both (plain-accepts (base + j) j t (omega arith) (omega arith)) (plain-accepts (base + s) s t (omega arith) (omega arith))

-- at a parameter of T
pub slot-T-is : (of s t : ℕ) → of ≡ 9 → slot_t of s t ≡ reaches s t
unfolding or component_of_no component_at
slot-T-is of s t e = ap (λ (k : ℕ). slot_t k s t) e

-- at a parameter that is not of I
pub slot-I-any : (of s i : ℕ) → of ≢ 7 → slot_i of s i ≡ true
unfolding or
slot-I-any of s i h = rw (ne_eqb of 7 h)

-- nothing is joined where one of the two converts to nothing
pub none-accepts : (t : ℕ) → accepts 255 t ≡ false
unfolding both
none-accepts t = refl

-- THE SHAPE OF AN OPERAND: its scalar where it has the shape b, or none for one of another shape a
module _ (a b s r : ℕ) (e : r ≡ pick (eqb a b) s none) where
  pub other-shape : s < 7 → r ≡ none → a ≢ b
  other-shape h q k = let w = sym (e ∙ ap (λ (t : Bool). pick t s none) (eq-eqb a b k)) ∙ q in omega arith

  pub same-shape : r ≢ none → (a ≡ b) × (r ≡ s)
  same-shape h = go (eqb a b) refl
    where
      go : (t : Bool) → eqb a b ≡ t → (a ≡ b) × (r ≡ s)
      go true q = (eqb-true a b q, e ∙ ap (λ (t : Bool). pick t s none) q)
      go false q = absurd (h (e ∙ ap (λ (t : Bool). pick t s none) q))
