-- Entering a result by its number is the outcome of its type. Assumes nothing.
use Prim.Native.Nat.{ℕ, ◌+◌, ◌-◌, ◌/◌, ◌%◌, ◌≤◌, ◌<◌}
use mathlib.Core.Path.{◌≡◌, refl, sym, ◌∙◌, ap, subst}
use mathlib.Core.Bool.{Bool, true, false, ◌&&◌, not}
use mathlib.Core.List.{List}
use native.Mathlib.Omega.{arith}
use lib.Dec.{T, ltb}
use borrow.Author.Tests.{ltb-true, ltb-false, lt-ltb, le-ltb, le-leb}
use Rattle.conv.specs.Types.{Ty, formed, is_width, is_runtime, is_fract}
use Rattle.conv.specs.Types.Ty.{scalar, runtime, frexp, modf}
use Rattle.overload.specs.inner.Code.{operand}
use Rattle.overload.proofs.Operands.{and_left, and_right}
use Rattle.table.specs.Table.{kind_frexp, kind_modf, allowedb, Sound}
use Rattle.table.specs.Denote.{made, type_at, ty_of, kind_of, p_of, q_of}
use Rattle.table.specs.Enter.{entered, enter_words, EnterDone, entered_two, enter_two_words, EnterTwoDone, container, entry_answer}
use Rattle.answer.specs.Answer.{RefusedWith}
use Rattle.answer.specs.declared.Reason.{Reason}
use Rattle.answer.specs.declared.Place.{Place}
use Rattle.table.specs.Placing.{turned_down, Outcome, Gave, entering, entry_of}
use Rattle.answer.specs.declared.Answer.{Answer}
use Rattle.table.specs.declared.Entry.{Entry}
use Rattle.std.specs.Prelude.{Result}
use Rattle.table.specs.declared.Entered.{Entered}
use Rattle.table.specs.declared.Lacks.{Lacks}
use Rattle.table.specs.Enter.{there}
use Rattle.table.proofs.TypeLaws.{type-scalar, made-frexp, made-modf}
use Rattle.table.proofs.FormedLaws.{clean}
use Rattle.table.proofs.EnterLaws.{allow, allow-vec, allow-mat, ty-made}
use Rattle.table.proofs.EnterTwoLaws.{holder}
use Rattle.table.proofs.PlacingLaws.{enter-outcome, enter-two-outcome, standing-outcome}
use Rattle.table.proofs.Giving.{gave}
use Rattle.ruled.specs.inner.Result.{vec_entry, mat_entry, result_entry, ResultDone, PlainDone}
use Rattle.ruled.proofs.Codes.{operand-scalar, operand-vec, operand-mat, operand-other}

split : {P : Type 0} (b : Bool) → (b ≡ true → P) → (b ≡ false → P) → P
split true f g = f refl
split false f g = g refl

width_of : (k : ℕ) → 2 ≤ k → k ≤ 4 → is_width k ≡ true
width_of k l h = rw (le-leb 2 k l, le-leb k 4 h)

no-runtime : (k : ℕ) → T (not (is_runtime (runtime (scalar k)))) → ⊥
unfolding is_runtime
no-runtime k t = t

-- neither a matrix nor a type of another shape is a `fract`
clash : {P : Type 0} → false ≡ true → P
clash e = absurd (let z : ◌≡◌ {A = ℕ} 0 1 = cc in omega arith)

no-fract : (x : ℕ) → 28 ≤ x → is_fract (operand x) ≡ true → ⊥
unfolding is_fract
no-fract x h f =
    split (ltb x 91) (λ b. clash (sym (ap is_fract (operand-mat x h (ltb-true x 91 b))) ∙ f)) (λ b. clash (sym (ap is_fract (operand-other x (ltb-false x 91 b))) ∙ f))

module _ (place : ℕ) (w : List ℕ) (n : ℕ) (s : Sound w n) (x : ℕ) where
  -- a vector's entry

  module _ (low : 7 ≤ x) (high : x < 28) where
    vec-allowed : allowedb w n (vec_entry x) ≡ true
    vec-allowed = allow-vec w n s (x / 7 + 1) (x % 7) (width_of (x / 7 + 1) (omega arith) (omega arith)) (omega arith)

    vec-type : ty_of w (vec_entry x) ≡ operand x
    unfolding made
    vec-type = ty-made w (vec_entry x) (omega arith) ∙ sym (operand-vec x low high)

  plain-big : 28 ≤ x → x < 91 → formed (operand x) ≡ true → (r : Result Entered Lacks) (v : List ℕ) → EnterDone w n (mat_entry x) r v
      → record { answer = entry_answer place r n; words = v } ≡ entering place w n (operand x)
  unfolding made formed
  plain-big l h f r v d =
      let e = operand-mat x l h in
      let g = sym (ap formed e) ∙ f in
      let fl = and_right (is_width ((x / 7 - 4) / 3 + 2) && is_width ((x / 7 - 4) % 3 + 2)) _ g in
      enter-outcome place w n s (mat_entry x)
      (allow-mat w n s ((x / 7 - 4) / 3 + 2) ((x / 7 - 4) % 3 + 2) (x % 7) (width_of ((x / 7 - 4) / 3 + 2) (omega arith) (omega arith)) (width_of ((x / 7 - 4) % 3 + 2) (omega arith) (omega arith)) fl (omega arith))
      r v d
      ∙ ap (entering place w n) (ty-made w (mat_entry x) (omega arith) ∙ sym e)

  -- A SCALAR, A VECTOR OR A MATRIX
  pub plain-outcome : formed (operand x) ≡ true → T (not (is_runtime (operand x))) → (r : Result Entered Lacks) (v : List ℕ) → PlainDone w n x r v
      → record { answer = entry_answer place r n; words = v } ≡ entering place w n (operand x)
  plain-outcome f k r v d =
      split (ltb x 7)
      (λ b.
      let l = ltb-true x 7 b in
      let a : r ≡ there (record { 0 = x }) n = d.reply ∙ rw b in
      let c : v ≡ w = d.words ∙ rw b in
      (λ i. record { answer = entry_answer place (a i) n; words = c i })
      ∙ sym (standing-outcome place w n s x (operand x) (omega (arith, s.low)) (type-scalar w x l ∙ sym (operand-scalar x l))))
      (λ b.
      let l : 7 ≤ x = ltb-false x 7 b in
      split (ltb x 28)
      (λ c.
      let h = ltb-true x 28 c in
      enter-outcome place w n s (vec_entry x) (vec-allowed l h) r v (record { reply = d.reply ∙ rw (b, c); words = d.words ∙ rw (b, c) })
      ∙ ap (entering place w n) (vec-type l h))
      (λ c.
      let h : 28 ≤ x = ltb-false x 28 c in
      split (ltb x 91)
      (λ e. plain-big h (ltb-true x 91 e) f r v (record { reply = d.reply ∙ rw (b, c); words = d.words ∙ rw (b, c) }))
      (λ e. absurd (no-array (operand-other x (ltb-false x 91 e)) k))))
    where
      no-array : operand x ≡ runtime (scalar (x % 7)) → T (not (is_runtime (operand x))) → ⊥
      no-array e t = no-runtime (x % 7) (subst (λ (y : Ty). T (not (is_runtime y))) e t)

  -- A RESULT TYPE OF frexp OR modf

  module _ (kind : ℕ) (R : Ty → Ty) (above : 7 ≤ kind) (is : (e : Entry) (t : Ty) → e.kind ≡ kind → made e t ≡ R t)
      (clear : (k : ℕ) → clean (result_entry kind k) ≡ true) (holds : holder (result_entry kind 0) ≡ true)
      (words : (t : Ty) (k : ℕ) → entry_of (made (result_entry kind 0) t) k ≡ container (result_entry kind 0) k)
      (fract : (t : Ty) → formed (R t) ≡ true → is_fract t ≡ true) where
    pub result-outcome : formed (R (operand x)) ≡ true → (r : Result Entered Lacks) (v : List ℕ) → ResultDone w n kind x r v
        → record { answer = entry_answer place r n; words = v } ≡ entering place w n (R (operand x))
    result-outcome f r v d =
        split (ltb x 7)
        (λ b.
        let l = ltb-true x 7 b in
        let e : type_at w x ≡ operand x = type-scalar w x l ∙ sym (operand-scalar x l) in
        let m : made (result_entry kind x) (type_at w x) ≡ R (operand x) = is (result_entry kind x) (type_at w x) refl ∙ ap R e in
        enter-outcome place w n s (result_entry kind x) (allow w n s (result_entry kind x) (clear x) (omega (arith, s.low)) (ap formed m ∙ f)) r v
        (record { reply = d.reply ∙ rw b; words = d.words ∙ rw b })
        ∙ ap (entering place w n) (ty-made w (result_entry kind x) above ∙ m))
        (λ b.
        let l : 7 ≤ x = ltb-false x 7 b in
        split (ltb x 28)
        (λ c.
        let h = ltb-true x 28 c in
        let m : made (result_entry kind 0) (ty_of w (vec_entry x)) ≡ R (operand x) = is (result_entry kind 0) (ty_of w (vec_entry x)) refl ∙ ap R (vec-type l h) in
        enter-two-outcome place w n s (vec_entry x) (result_entry kind 0) (vec-allowed l h) holds (ap formed m ∙ f) words r v
        (record { reply = d.reply ∙ rw b; words = d.words ∙ rw b })
        ∙ ap (entering place w n) m)
        (λ c. absurd (no-fract x (ltb-false x 28 c) (fract (operand x) f))))

-- the two of them

module _ (place : ℕ) (w : List ℕ) (n : ℕ) (s : Sound w n) (x : ℕ) where
  pub frexp-outcome : formed (frexp (operand x)) ≡ true → (r : Result Entered Lacks) (v : List ℕ) → ResultDone w n kind_frexp x r v
      → record { answer = entry_answer place r n; words = v } ≡ entering place w n (frexp (operand x))
  unfolding clean holder made kind_of p_of q_of formed
  frexp-outcome =
      result-outcome place w n s x kind_frexp frexp (omega arith) (λ e t k. made-frexp e t k) (λ k. refl) refl (λ t k. refl) (λ t f. and_left (is_fract t) _ f)

  pub modf-outcome : formed (modf (operand x)) ≡ true → (r : Result Entered Lacks) (v : List ℕ) → ResultDone w n kind_modf x r v
      → record { answer = entry_answer place r n; words = v } ≡ entering place w n (modf (operand x))
  unfolding clean holder made kind_of p_of q_of formed
  modf-outcome =
      result-outcome place w n s x kind_modf modf (omega arith) (λ e t k. made-modf e t k) (λ k. refl) refl (λ t k. refl) (λ t f. and_left (is_fract t) _ f)

-- THE WAYS of entering by a number

module _ (w : List ℕ) (n x : ℕ) where
  pub plain-scalar : x < 7 → PlainDone w n x (there (record { 0 = x }) n) w
  plain-scalar l = record { reply = rw (lt-ltb x 7 l); words = rw (lt-ltb x 7 l) }

  module _ (e : Entry) (r : Result Entered Lacks) (v : List ℕ) where
    pub plain-vec : 7 ≤ x → x < 28 → e ≡ vec_entry x → EnterDone w n e r v → PlainDone w n x r v
    plain-vec l h q d =
        record {
          reply = d.reply ∙ ap (entered w n) q ∙ sym (rw (le-ltb x 7 l, lt-ltb x 28 h));
          words = d.words ∙ ap (enter_words w n) q ∙ sym (rw (le-ltb x 7 l, lt-ltb x 28 h));
        }

    pub plain-mat : 28 ≤ x → e ≡ mat_entry x → EnterDone w n e r v → PlainDone w n x r v
    plain-mat l q d =
        record {
          reply = d.reply ∙ ap (entered w n) q ∙ sym (rw (le-ltb x 7 (omega arith), le-ltb x 28 l));
          words = d.words ∙ ap (enter_words w n) q ∙ sym (rw (le-ltb x 7 (omega arith), le-ltb x 28 l));
        }

    module _ (kind : ℕ) where
      pub result-scalar : x < 7 → EnterDone w n (result_entry kind x) r v → ResultDone w n kind x r v
      result-scalar l d = record { reply = d.reply ∙ sym (rw (lt-ltb x 7 l)); words = d.words ∙ sym (rw (lt-ltb x 7 l)) }

      pub result-vec : 7 ≤ x → e ≡ vec_entry x → EnterTwoDone w n e (result_entry kind 0) r v → ResultDone w n kind x r v
      result-vec l q d =
          record {
            reply = d.reply ∙ ap (λ (i : Entry). entered_two w n i (result_entry kind 0)) q ∙ sym (rw (le-ltb x 7 l));
            words = d.words ∙ ap (λ (i : Entry). enter_two_words w n i (result_entry kind 0)) q ∙ sym (rw (le-ltb x 7 l));
          }

-- an outcome in its two parts
pub gave-from : {x r : Answer} {v : List ℕ} {o p : Outcome} → r ≡ x → record { answer = x; words = v } ≡ o → o ≡ p → Gave p r v
gave-from e q h = gave (e ∙ ap (λ (o : Outcome). o.answer) (q ∙ h)) (ap (λ (o : Outcome). o.words) (q ∙ h))

pub gave-as : {r : Answer} {v : List ℕ} {o p : Outcome} → o ≡ p → Gave o r v → Gave p r v
gave-as h g = gave (g.reply ∙ ap (λ (o : Outcome). o.answer) h) (g.words ∙ ap (λ (o : Outcome). o.words) h)

-- a refusal
pub gave-refused : (reason : Reason) (place : Place) {r : Answer} (w : List ℕ) (n : ℕ) → RefusedWith reason place n r → Gave (turned_down reason place.0 w n) r w
gave-refused reason place w n t = gave t.made refl
