-- The item functions, each from the promises of the calls it makes: what a call answered can be pushed, and the stack afterwards is the item's effect.
-- Assumes nothing.
use Prim.Native.Nat.{ℕ, ◌-◌, ◌<◌, ◌≤◌}
use mathlib.Core.Path.{◌≡◌, refl, sym, ◌∙◌, ap}
use mathlib.Core.Bool.{Bool, true, false, ◌&&◌, cond}
use mathlib.Core.List.{List}
use native.Mathlib.Omega.{arith}
use lib.ListN.{length, get_or, take, drop, length-map}
use lib.Dec.{eqb, leb}
use borrow.Author.Tests.{leb-true}
use Rattle.overload.proofs.Operands.{and_left}
use Rattle.table.specs.Table.{Sound, allowedb}
use Rattle.table.specs.Denote.{ty_of}
use Rattle.table.specs.Enter.{EnterDone, entry_answer}
use Rattle.table.specs.Placing.{Outcome, Gave, GaveMarked, entering}
use Rattle.table.specs.Kept.{Kept}
use Rattle.table.specs.declared.Entry.{Entry}
use Rattle.std.specs.Prelude.{Result}
use Rattle.table.specs.declared.Entered.{Entered}
use Rattle.table.specs.declared.Lacks.{Lacks}
use Rattle.answer.specs.declared.Place.{Place}
use Rattle.answer.specs.declared.Reason.TheVariants.{Stack}
use Rattle.answer.specs.declared.Answer.{Answer}
use Rattle.table.proofs.FormedLaws.{allowed-type}
use Rattle.table.proofs.PlacingLaws.{enter-outcome}
use Rattle.table.proofs.Keeping.{kept-entering}
use Rattle.ruled.proofs.Outcomes.{gave-from}
use Rattle.ops_ty.proofs.Demand1.{unary-at-kept, binary-at-kept}
use Rattle.held.specs.Held.{number_of}
use Rattle.overload.specs.Marks.{any_running}
use Rattle.answer.specs.Answer.{has_value}
use Rattle.answer.specs.declared.Typed.{Typed}
use Rattle.table.proofs.Giving.{gave}
use Rattle.call_ty.specs.Calls.{first_in, second_in, numbers, marks_of, types, call_outcome, builtin_runs}
use Rattle.call_ty.proofs.Lists.{type-in}
use Rattle.call_ty.specs.inner.Codes.{Under}
use Rattle.call_ty.proofs.Demand1.{call-at-kept}
use Rattle.step.specs.declared.Did.{Did}
use Rattle.step.specs.Effect.{most, State, onto, is_valued, calling, take_effect}
use Rattle.step.specs.inner.Code.{state_of, Arity, mark_in, operator_outcome, operator_effect, Ready, turned_away, Pushes, Does, Settles}
use Rattle.step.proofs.StackLaws.{operands-lent, under_drop}
use Rattle.step.proofs.Answers.{bare-words, has-place, pushes}
use Rattle.step.proofs.Effects.{does-as, settled, onto-valued, refusing, lent-many, operator-goes, calling-on, landing-on, landing-full, take-goes}

module _ (place : Place) (count : ℕ) (vals : List ℕ) (used : ℕ) (w : List ℕ) (ready : Ready count vals used w) where
  abbrev st : State
  st = state_of count vals used w

  sound : Sound w used
  sound = ready.good.sound

  -- AN OUTCOME on the last k values is put in their place
  module _ (k : ℕ) (h : k ≤ count) where
    abbrev args : List ℕ
    args = take (count - (count - k)) (drop (count - k) vals)

    fits : count ≤ length vals
    fits = omega (arith, ready.size, ready.fits)

    pub args-under : Under used (numbers args)
    args-under =
        rw (sym (operands-lent count vals fits k h))
        (under_drop used (length (take count vals) - k) (take count vals) ready.good.under)

    -- operators: there is an operand at least, so the stack has room
    module _ (op : ℕ) (r : Arity k) where
      operator-kept : (us : List ℕ) → length us ≡ k → Under used (numbers us) → Kept w used (operator_outcome place.0 w used op (types w (numbers us)) (marks_of us))
      unfolding operator_outcome
      operator-kept us n u =
          let l : 0 < length (numbers us) = omega (arith, n, r.0, length-map us number_of) in
          cond-kept (eqb (length (types w (numbers us))) 1) _ _
          (rw (type-in w (numbers us) 0 l) (unary-at-kept place.0 w used sound op (get_or (numbers us) 0 0) (u 0 l) (mark_in (marks_of us) 0)))
          (binary-at-kept place.0 w used sound op (first_in (types w (numbers us))) (second_in (types w (numbers us))) (mark_in (marks_of us) 0) (mark_in (marks_of us) 1))
        where
          cond-kept : (b : Bool) (x y : Outcome) → Kept w used x → Kept w used y → Kept w used (cond b x y)
          cond-kept true x y p q = p
          cond-kept false x y p q = q

      module _ {a : Answer} {v : List ℕ} (g : Gave (operator_outcome place.0 w used op (types w (numbers args)) (marks_of args)) a v) where
        pub operator-pushes : Pushes (count - k) a
        operator-pushes =
            pushes w used (operator_outcome place.0 w used op (types w (numbers args)) (marks_of args))
            (operator-kept args (lent-many place count vals used w ready k h) args-under) (count - k)
            (λ t m e. omega (arith, ready.fits, r.0)) a g.reply

        pub operator-does : (keeps m : Bool) → m ≡ (keeps && any_running (marks_of args)) → {d : Did} {after : List ℕ} → Settles (count - k) vals m a d after → Does (operator_effect keeps k place.0 st op) d after v
        operator-does keeps m e s = does-as (ap (λ (b : Bool). onto (take (count - k) vals) b (operator_outcome place.0 w used op (types w (numbers args)) (marks_of args))) e ∙ operator-goes place count vals used w ready keeps k op r h) (settled s g)

    -- calls: a value that comes has a place, or is refused; then nothing was entered
    module _ (keeps : Bool) (profile : ℕ) (name tplt : List ℕ) (ut : Under used tplt) {t : Typed} {v : List ℕ}
        (gm : GaveMarked (call_outcome profile place.0 w used name (types w tplt) (types w (numbers args)) (marks_of args)) (builtin_runs profile name args) t v) where
      abbrev outcome : Outcome
      outcome = call_outcome profile place.0 w used name (types w tplt) (types w (numbers args)) (marks_of args)

      abbrev a : Answer
      a = t.answer

      g : Gave (call_outcome profile place.0 w used name (types w tplt) (types w (numbers args)) (marks_of args)) t.answer v
      g = gave (ap (λ (x : Typed). x.answer) gm.reply) gm.words

      runs : t.running ≡ (has_value outcome.answer && builtin_runs profile name args)
      runs = ap (λ (x : Typed). x.running) gm.reply

      same_test : (b : Bool) → (leb most (count - k) && is_valued t.answer) ≡ b → (leb most (count - k) && is_valued outcome.answer) ≡ b
      same_test b e = ap (λ (x : Answer). leb most (count - k) && is_valued x) (sym g.reply) ∙ e

      pub call-pushes : (leb most (count - k) && is_valued t.answer) ≡ false → Pushes (count - k) t.answer
      call-pushes e =
          pushes w used outcome (call-at-kept profile place.0 w used sound name tplt args ut args-under) (count - k)
          (λ t m q. has-place (count - k) outcome.answer t m (same_test false e) q) a g.reply

      pub call-does : (leb most (count - k) && is_valued t.answer) ≡ false → {r : Did} {after : List ℕ} → Settles (count - k) vals (keeps && t.running) t.answer r after
          → Does (calling keeps profile place.0 st name (types w tplt) k) r after v
      call-does e s =
          does-as
          (ap (λ (b : Bool). onto (take (count - k) vals) (keeps && b) outcome) runs
          ∙ onto-valued (take (count - k) vals) keeps (builtin_runs profile name args) outcome
          ∙ landing-on place count vals used w ready k (keeps && builtin_runs profile name args) outcome (same_test false e)
          ∙ calling-on place count vals used w ready keeps profile name (types w tplt) k h)
          (settled s g)

      pub call-full : (leb most (count - k) && is_valued t.answer) ≡ true → {r : Did} → r ≡ turned_away Stack place used
          → Does (calling keeps profile place.0 st name (types w tplt) k) r vals v
      call-full e q =
          rw (sym same-words)
          (refusing place count vals used w Stack q
          (landing-full place count vals used w ready k (keeps && builtin_runs profile name args) outcome (same_test true e) ∙ calling-on place count vals used w ready keeps profile name (types w tplt) k h))
        where
          -- the stack is full, so there is no operand
          none : count - (count - k) ≡ 0
          none =
              let l = leb-true most (count - k) (and_left (leb most (count - k)) _ e) in
              omega (arith, ready.fits)

          same-words : w ≡ v
          same-words =
              sym (g.words ∙ ap (λ (j : ℕ). (call_outcome profile place.0 w used name (types w tplt) (types w (numbers (take j (drop (count - k) vals)))) (marks_of (take j (drop (count - k) vals)))).words) none
              ∙ bare-words place.0 w used (types w tplt) sound profile name)

  -- TAKE
  module _ (e : Entry) (ok : allowedb w used e ≡ true) (h : count < most) (x : Result Entered Lacks) (v : List ℕ) (d : EnterDone w used e x v)
      {a : Answer} (q : a ≡ entry_answer place.0 x used) where
    taken : Gave (entering place.0 w used (ty_of w e)) a v
    taken = gave-from q (enter-outcome place.0 w used sound e ok x v d) refl

    pub take-pushes : Pushes count a
    take-pushes =
        pushes w used (entering place.0 w used (ty_of w e)) (kept-entering w used sound place.0 (ty_of w e) (allowed-type w used sound e ok)) count
        (λ t m z. h) a taken.reply

    pub take-does : (m : Bool) {r : Did} {after : List ℕ} → Settles count vals m a r after → Does (take_effect place.0 st e m) r after v
    take-does m s = does-as (take-goes place count vals used w ready e m ok h) (settled s taken)
