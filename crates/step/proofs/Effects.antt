-- The effect of each kind of item over the first values of a slice, test by test; and how an answer that was put on the stack is that effect.
-- Assumes nothing.
use Prim.Native.Nat.{ℕ, zero, suc, ◌+◌, ◌-◌, ◌<◌, ◌≤◌}
use mathlib.Core.Path.{◌≡◌, refl, sym, ◌∙◌, ap}
use mathlib.Core.Bool.{Bool, true, false, ◌&&◌}
use mathlib.Core.List.{List, [], ◌∷◌, ◌++◌}
use Rattle.std.proofs.Common.{Option, Some, None}
use native.Mathlib.Omega.{arith}
use lib.ListN.{length, get_or, take, drop, set, length-drop, length-map}
use lib.Seq.{length-take-le}
use lib.Dec.{ltb, leb}
use borrow.Author.Tests.{lt-ltb, le-ltb, lt-leb, le-leb}
use Rattle.held.specs.Held.{value_of, number_of, mark_of}
use Rattle.conv.specs.Types.{Ty, bool}
use Rattle.conv.specs.Types.Ty.{scalar}
use Rattle.overload.specs.Marks.{any_running}
use Rattle.answer.specs.Answer.{has_value}
use Rattle.table.specs.Table.{allowedb}
use Rattle.table.specs.Denote.{type_at, ty_of}
use Rattle.table.specs.Placing.{Outcome, Gave, entering}
use Rattle.table.specs.declared.Entry.{Entry}
use Rattle.answer.specs.declared.Place.{Place}
use Rattle.answer.specs.declared.Reason.{Reason}
use Rattle.answer.specs.declared.Reason.TheVariants.{NoSuchType, Template, Stack}
use Rattle.answer.specs.declared.TypeNo.{TypeNo}
use Rattle.answer.specs.declared.Refusal.{Refusal}
use Rattle.answer.specs.declared.Answer.{Answer}
use Rattle.answer.specs.declared.Answer.TheVariants.{Value, NoValue, Refused}
use Rattle.ops_ty.specs.Ops.{unary_outcome, binary_outcome}
use Rattle.call_ty.specs.Calls.{numbers, marks_of, types, call_outcome, builtin_runs}
use Rattle.call_ty.proofs.Lists.{number_at, type-in}
use Rattle.step.specs.declared.Did.{Did}
use Rattle.step.specs.declared.Did.TheVariants as did
use Rattle.step.specs.Effect.{most, State, Effect, goes, stop, pushed, answered, onto, push_effect, unary_effect, binary_effect, is_valued, landing, calling, call_effect, template_effect, take_effect}
use Rattle.step.specs.inner.Code.{state_of, Arity, operator_outcome, operator_effect, called_effect, Ready, turned_away, effect_by, Counted, Does, Settles}
use Rattle.step.proofs.StackLaws.{next-value, sized, below-them, operands-lent, value_in, value-under, mark-at}

-- the same effect
pub does-as : {e f : Effect} {r : Did} {vals w : List ℕ} → e ≡ f → Does e r vals w → Does f r vals w
does-as h d = record { effect = d.effect ∙ h; counted = d.counted }

-- an answer on the stack, and the outcome that it is
pub settled : {base : ℕ} {vals after w : List ℕ} {m : Bool} {a : Answer} {r : Did} {o : Outcome} → Settles base vals m a r after → Gave o a w → Does (onto (take base vals) m o) r after w
settled {base} {vals} {after} {w} {m} {a} {r} {o} s g =
    record { effect = s.effect w ∙ ap (onto (take base vals) m) (λ i. record { answer = g.reply i; words = g.words i }); counted = s.counted }

-- only a value takes its mark
pub onto-valued : (vs : List ℕ) (k m : Bool) (o : Outcome) → onto vs (k && (has_value o.answer && m)) o ≡ onto vs (k && m) o
unfolding onto
onto-valued vs k m o = go o.answer
  where
    go : (a : Answer) → answered vs (k && (has_value a && m)) a o.words ≡ answered vs (k && m) a o.words
    go (Value t n) = refl
    go (NoValue n) = refl
    go (Refused r) = refl

-- an answer put on the stack, by its case
module _ (base : ℕ) (vals : List ℕ) (b : Bool) where
  pub settle_value : (t : TypeNo) (m v : ℕ) → v ≡ value_of t.0 b → base < length vals → base < most → Settles base vals b (Value t m) (did.Went (base + 1) m) (set vals base v)
  unfolding effect_by Counted onto
  settle_value t m v e l h =
      record {
        effect = λ words. ap (λ (vs : List ℕ). goes (record { stack = vs; used = m; words = words })) (next-value vals base v l ∙ ap (λ (x : ℕ). take base vals ++ (x ∷ [])) e);
        counted = omega arith;
      }

  pub settle-silent : (m : ℕ) → base ≤ most → Settles base vals b (NoValue m) (did.Silent base m) vals
  unfolding effect_by Counted onto
  settle-silent m h = record { effect = λ words. refl; counted = h }

  pub settle-refused : (r : Refusal) → Settles base vals b (Refused r) (did.Refused r) vals
  unfolding effect_by Counted onto
  settle-refused r = record { effect = λ words. refl; counted = tt }

-- an operator on the values of its operands, by their count
module _ (place : ℕ) (w : List ℕ) (n op : ℕ) (us : List ℕ) where
  typed-many : length (types w (numbers us)) ≡ length us
  typed-many = length-map (numbers us) (type_at w) ∙ length-map us number_of

  -- the type of an operand
  typed_at : (i : ℕ) → i < length us → get_or (types w (numbers us)) i (scalar bool) ≡ type_at w (number_of (get_or us i 0))
  typed_at i h = type-in w (numbers us) i (omega (arith, length-map us number_of)) ∙ ap (type_at w) (number_at us i)

  pub operator-one : length us ≡ 1 → unary_outcome place w n op (type_at w (number_of (get_or us 0 0))) (mark_of (get_or us 0 0)) ≡ operator_outcome place w n op (types w (numbers us)) (marks_of us)
  unfolding operator_outcome
  operator-one l = sym (rw (typed-many ∙ l, typed_at 0 (omega (arith, l)), mark-at us 0))

  pub operator-two : length us ≡ 2
      → binary_outcome place w n op (type_at w (number_of (get_or us 0 0))) (type_at w (number_of (get_or us 1 0))) (mark_of (get_or us 0 0)) (mark_of (get_or us 1 0)) ≡ operator_outcome place w n op (types w (numbers us)) (marks_of us)
  unfolding operator_outcome
  operator-two l = sym (rw (typed-many ∙ l, typed_at 0 (omega (arith, l)), typed_at 1 (omega (arith, l)), mark-at us 0, mark-at us 1))

module _ (place : Place) (count : ℕ) (vals : List ℕ) (used : ℕ) (w : List ℕ) where
  abbrev st : State
  st = state_of count vals used w

  -- a refusal changes neither values nor words
  pub refusing : (reason : Reason) {e : Effect} {r : Did} → r ≡ turned_away reason place used → stop reason place.0 st ≡ e → Does e r vals w
  unfolding effect_by Counted
  refusing reason q h = rw q (record { effect = h; counted = tt })

  module _ (ready : Ready count vals used w) where
    fits : count ≤ length vals
    fits = omega (arith, ready.size, ready.fits)

    high : length (take count vals) ≡ count
    high = sized count vals fits

    -- a value of the stack has a number of the table
    pub value-below : (i : ℕ) → i < count → number_of (get_or vals i 0) < used
    value-below i h = let u = value-under used (take count vals) ready.good.under i (omega (arith, high)) in rw (value_in count vals fits i h) at u

    -- PUSH

    pub push-unknown : (t : ℕ) (m : Bool) → used ≤ t → stop NoSuchType place.0 st ≡ push_effect place.0 st t m
    unfolding push_effect
    push-unknown t m h = rw (le-ltb t used h)

    pub push-full : (t : ℕ) (m : Bool) → t < used → most ≤ count → stop Stack place.0 st ≡ push_effect place.0 st t m
    unfolding push_effect
    push-full t m h f = rw (lt-ltb t used h, high, le-ltb count most f)

    pub push_goes : (t : ℕ) (m : Bool) → t < used → count < most → goes (record { stack = pushed (take count vals) t m; used = used; words = w }) ≡ push_effect place.0 st t m
    unfolding push_effect
    push_goes t m h f = rw (lt-ltb t used h, high, lt-ltb count most f)

    pub push-does : (t : ℕ) (m : Bool) (v : ℕ) → v ≡ value_of t m → t < used → count < most → Does (push_effect place.0 st t m) (did.Went (count + 1) used) (set vals count v) w
    unfolding effect_by Counted
    push-does t m v e h f =
        does-as (push_goes t m h f)
        (record { effect = ap (λ (vs : List ℕ). goes (record { stack = vs; used = used; words = w })) (next-value vals count v (omega (arith, ready.size)) ∙ ap (λ (x : ℕ). take count vals ++ (x ∷ [])) e); counted = omega arith })

    -- OPERATORS on the last k values, as the part of the slice that is lent on

    abbrev lent : ℕ → List ℕ
    lent k = take (count - (count - k)) (drop (count - k) vals)

    pub lent-many : (k : ℕ) → k ≤ count → length (lent k) ≡ k
    lent-many k h =
        length-take-le (count - (count - k)) (drop (count - k) vals) (omega (arith, length-drop (count - k) vals, fits))
        ∙ (let z : count - (count - k) ≡ k = omega arith in z)

    pub operator-short : (keeps : Bool) (k op : ℕ) → Arity k → count < k → stop Stack place.0 st ≡ operator_effect keeps k place.0 st op
    unfolding operator_effect unary_effect binary_effect
    operator-short keeps zero op r h = absurd (omega (arith, r.0))
    operator-short keeps (suc zero) op r h = rw (high, lt-leb 1 count h)
    operator-short keeps (suc (suc zero)) op r h = rw (high, lt-leb 2 count h)
    operator-short keeps (suc (suc (suc k))) op r h = absurd (omega (arith, r.1))

    pub operator-goes : (keeps : Bool) (k op : ℕ) → Arity k → k ≤ count
        → onto (take (count - k) vals) (keeps && any_running (marks_of (lent k))) (operator_outcome place.0 w used op (types w (numbers (lent k))) (marks_of (lent k))) ≡ operator_effect keeps k place.0 st op
    unfolding operator_effect unary_effect binary_effect
    operator-goes keeps zero op r h = absurd (omega (arith, r.0))
    operator-goes keeps (suc zero) op r h =
        ap (onto (take (count - 1) vals) (keeps && any_running (marks_of (lent 1)))) (sym (operator-one place.0 w used op (lent 1) (lent-many 1 h)))
        ∙ sym (rw (below-them count vals fits 1, operands-lent count vals fits 1 h, high, le-leb 1 count h))
    operator-goes keeps (suc (suc zero)) op r h =
        ap (onto (take (count - 2) vals) (keeps && any_running (marks_of (lent 2)))) (sym (operator-two place.0 w used op (lent 2) (lent-many 2 h)))
        ∙ sym (rw (below-them count vals fits 2, operands-lent count vals fits 2 h, high, le-leb 2 count h))
    operator-goes keeps (suc (suc (suc k))) op r h = absurd (omega (arith, r.1))

    -- CALLS, in a profile; k of them leave room for a value, but where there is no operand and the stack is full

    module _ (keeps : Bool) (profile : ℕ) where
      pub calling-on : (name : List ℕ) (ts : List Ty) (k : ℕ) → k ≤ count
          → landing place.0 st k (keeps && builtin_runs profile name (lent k)) (call_outcome profile place.0 w used name ts (types w (numbers (lent k))) (marks_of (lent k))) ≡ calling keeps profile place.0 st name ts k
      calling-on name ts k h = sym (rw (operands-lent count vals fits k h))

      call-short : (name : List ℕ) (k : ℕ) → count < k → stop Stack place.0 st ≡ call_effect keeps profile place.0 st name k
      unfolding call_effect
      call-short name k h = rw (high, lt-leb k count h)

      pub call-goes : (name : List ℕ) (k : ℕ) → k ≤ count → calling keeps profile place.0 st name [] k ≡ call_effect keeps profile place.0 st name k
      unfolding call_effect
      call-goes name k h = let b : leb k (length (take count vals)) ≡ true = rw high (le-leb k count h) in sym (rw b)

      template-short : (name : List ℕ) (t k : ℕ) → count < k → stop Stack place.0 st ≡ template_effect keeps profile place.0 st name t k
      unfolding template_effect
      template-short name t k h = rw (high, lt-leb k count h)

      pub called-short : (name : List ℕ) (t : Option TypeNo) (k : ℕ) → count < k → stop Stack place.0 st ≡ called_effect keeps profile place.0 st name t k
      called-short name None k h = call-short name k h
      called-short name (Some t) k h = template-short name t.0 k h

      pub template-unknown : (name : List ℕ) (t k : ℕ) → k ≤ count → used ≤ t → stop NoSuchType place.0 st ≡ template_effect keeps profile place.0 st name t k
      unfolding template_effect
      template-unknown name t k h g = rw (high, le-leb k count h, le-ltb t used g)

      pub template-goes : (name : List ℕ) (t k : ℕ) → k ≤ count → t < used → calling keeps profile place.0 st name (type_at w t ∷ []) k ≡ template_effect keeps profile place.0 st name t k
      unfolding template_effect
      template-goes name t k h g = let b : leb k (length (take count vals)) ≡ true = rw high (le-leb k count h) in sym (rw (b, lt-ltb t used g))

    -- an outcome lands on the stack, or its value has no place there

    pub landing-on : (k : ℕ) (m : Bool) (o : Outcome) → (leb most (count - k) && is_valued o.answer) ≡ false → onto (take (count - k) vals) m o ≡ landing place.0 st k m o
    landing-on k m o h = sym (rw (below-them count vals fits k, high, h))

    pub landing-full : (k : ℕ) (m : Bool) (o : Outcome) → (leb most (count - k) && is_valued o.answer) ≡ true → stop Stack place.0 st ≡ landing place.0 st k m o
    landing-full k m o h = sym (rw (high, h))

    -- TAKE

    pub take-wrong : (e : Entry) (m : Bool) → allowedb w used e ≡ false → stop Template place.0 st ≡ take_effect place.0 st e m
    unfolding take_effect
    take-wrong e m h = rw h

    pub take-full : (e : Entry) (m : Bool) → allowedb w used e ≡ true → most ≤ count → stop Stack place.0 st ≡ take_effect place.0 st e m
    unfolding take_effect
    take-full e m h f = rw (h, high, le-ltb count most f)

    pub take-goes : (e : Entry) (m : Bool) → allowedb w used e ≡ true → count < most → onto (take count vals) m (entering place.0 w used (ty_of w e)) ≡ take_effect place.0 st e m
    unfolding take_effect
    take-goes e m h f = let b : ltb (length (take count vals)) most ≡ true = rw high (lt-ltb count most f) in sym (rw (h, b))
