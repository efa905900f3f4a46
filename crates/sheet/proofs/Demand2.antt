-- DEMAND 2 for sheets. "A sheet is proved item by item against demand 2": an operator, a call and a take do what the single call does on the operands that
-- the stack holds, over the values below them; its value has the mark that the single call gives it, where the sheet's version keeps marks. The single call is the one whose types are proved to be those of the standard. The item's place
-- stands in a refusal and nowhere else. Assumes nothing.
use Prim.Native.Nat.{ℕ, ◌-◌, ◌<◌, ◌≤◌}
use mathlib.Core.Path.{◌≡◌, refl, sym, ◌∙◌, ap}
use mathlib.Core.Bool.{Bool, true, false, ◌&&◌}
use mathlib.Core.List.{List, [], ◌∷◌}
use native.Mathlib.Omega.{arith}
use lib.Dec.{ltb, leb}
use lib.ListN.{length, get_or, length-drop}
use borrow.Author.Tests.{lt-ltb, le-leb}
use Rattle.table.specs.Table.{soundb, allowedb}
use Rattle.table.specs.Denote.{ty_of}
use Rattle.table.specs.Enter.{enter_type_reply, enter_type_words}
use Rattle.table.specs.Placing.{enter_type}
use Rattle.table.specs.declared.Entry.{Entry}
use Rattle.answer.specs.declared.Reason.TheVariants.{NoSuchType, Template}
use Rattle.table.proofs.SoundLaws.{of-sound}
use Rattle.table.proofs.KindLaws.{split, and-false}
use Rattle.table.proofs.Keeping.{enter-call}
use Rattle.overload.specs.Marks.{any_running}
use Rattle.ruled.specs.Call.{operand_ty}
use Rattle.ops_ty.specs.Ops.{unary_outcome, binary_outcome, type_unary_op, type_binary_op, unary_runs, binary_runs}
use Rattle.call_ty.specs.Calls.{numbers, marks_of, types, call_outcome, all_under, type_builtin_fn, builtin_runs}
use Rattle.call_ty.specs.inner.Codes.{Under}
use Rattle.call_ty.proofs.Lists.{under_all}
use Rattle.held.specs.Held.{number_of, mark_of}
use Rattle.step.specs.Effect.{most, State, height, operands, below, stop, onto, is_valued, landing, calling, unary_effect, binary_effect, call_effect, template_effect, take_effect}
use Rattle.step.specs.inner.Code.{Good}
use Rattle.sheet.specs.Single.{moved}
use Rattle.step.proofs.StackLaws.{value-under, under_drop}
use Rattle.sheet.proofs.Moving.{entering-moved, unary-moved, binary-moved, call-moved}

-- lists of one and of two
one_value : (l : List ℕ) → length l ≡ 1 → l ≡ get_or l 0 0 ∷ []
one_value [] h = absurd (omega (arith, h))
one_value (a ∷ []) h = refl
one_value (a ∷ b ∷ l) h = absurd (omega (arith, h))

two-values : (l : List ℕ) → length l ≡ 2 → l ≡ get_or l 0 0 ∷ get_or l 1 0 ∷ []
two-values [] h = absurd (omega (arith, h))
two-values (a ∷ []) h = absurd (omega (arith, h))
two-values (a ∷ b ∷ []) h = refl
two-values (a ∷ b ∷ c ∷ l) h = absurd (omega (arith, h))

module _ (place : ℕ) (st : State) (good : Good st) where
  abbrev w : List ℕ
  w = st.words

  abbrev n : ℕ
  n = st.used

  sound : soundb w n ≡ true
  sound = of-sound w n good.sound

  -- the operands of k values have numbers of the table
  operands-under : (k : ℕ) → Under n (numbers (operands k st))
  operands-under k = under_drop n (height st - k) st.stack good.under

  operands-long : (k : ℕ) → k ≤ height st → length (operands k st) ≡ k
  operands-long k l = omega (arith, length-drop (height st - k) st.stack)

  operand-under : (k i : ℕ) → k ≤ height st → i < k → ltb (number_of (get_or (operands k st) i 0)) n ≡ true
  operand-under k i l h = lt-ltb (number_of (get_or (operands k st) i 0)) n (value-under n (operands k st) (operands-under k) i (omega (arith, operands-long k l)))

  -- UNARY

  unary-call : (op a : ℕ) → ltb (number_of a) n ≡ true → unary_outcome 0 w n op (operand_ty w a) (mark_of a) ≡ type_unary_op w n op a
  unfolding type_unary_op
  unary-call op a h = sym (rw (sound, h))

  pub unary-single : (keeps : Bool) (op : ℕ) → 1 ≤ height st
      → unary_effect keeps place st op
      ≡ onto (below 1 st) (keeps && unary_runs (get_or (operands 1 st) 0 0)) (moved place (type_unary_op w n op (get_or (operands 1 st) 0 0)))
  unfolding unary_effect
  unary-single keeps op l =
      let a = get_or (operands 1 st) 0 0 in
      let m = keeps && any_running (marks_of (operands 1 st)) in
      rw (le-leb 1 (height st) l)
      (ap (onto (below 1 st) m) (unary-moved place w n op (operand_ty w a) (mark_of a) ∙ ap (moved place) (unary-call op a (operand-under 1 0 l (omega arith))))
      ∙ ap (λ (vs : List ℕ). onto (below 1 st) (keeps && any_running (marks_of vs)) (moved place (type_unary_op w n op a))) (one_value (operands 1 st) (operands-long 1 l)))

  -- BINARY: the operands in written order

  binary-call : (op a b : ℕ) → ltb (number_of a) n ≡ true → ltb (number_of b) n ≡ true
      → binary_outcome 0 w n op (operand_ty w a) (operand_ty w b) (mark_of a) (mark_of b) ≡ type_binary_op w n op a b
  unfolding type_binary_op
  binary-call op a b h k = sym (rw (sound, h, k))

  pub binary-single : (keeps : Bool) (op : ℕ) → 2 ≤ height st
      → binary_effect keeps place st op
      ≡ onto (below 2 st) (keeps && binary_runs (get_or (operands 2 st) 0 0) (get_or (operands 2 st) 1 0))
      (moved place (type_binary_op w n op (get_or (operands 2 st) 0 0) (get_or (operands 2 st) 1 0)))
  unfolding binary_effect
  binary-single keeps op l =
      let a = get_or (operands 2 st) 0 0 in
      let b = get_or (operands 2 st) 1 0 in
      let m = keeps && any_running (marks_of (operands 2 st)) in
      rw (le-leb 2 (height st) l)
      (ap (onto (below 2 st) m)
      (binary-moved place w n op (operand_ty w a) (operand_ty w b) (mark_of a) (mark_of b)
      ∙ ap (moved place) (binary-call op a b (operand-under 2 0 l (omega arith)) (operand-under 2 1 l (omega arith))))
      ∙ ap (λ (vs : List ℕ). onto (below 2 st) (keeps && any_running (marks_of vs)) (moved place (type_binary_op w n op a b))) (two-values (operands 2 st) (operands-long 2 l)))

  -- CALLS, without a template list and with one type in it: the single call in the run's profile, whose value has a place on the stack

  call-call : (profile : ℕ) (name tplt : List ℕ) (k : ℕ) → all_under n tplt ≡ true
      → call_outcome profile 0 w n name (types w tplt) (types w (numbers (operands k st))) (marks_of (operands k st)) ≡ type_builtin_fn profile w n name tplt (operands k st)
  unfolding type_builtin_fn
  call-call profile name tplt k h = sym (rw (sound, h, under_all n (numbers (operands k st)) (operands-under k)))

  calling-single : (keeps : Bool) (profile : ℕ) (name tplt : List ℕ) (k : ℕ) → all_under n tplt ≡ true
      → calling keeps profile place st name (types w tplt) k ≡ landing place st k (keeps && builtin_runs profile name (operands k st)) (moved place (type_builtin_fn profile w n name tplt (operands k st)))
  calling-single keeps profile name tplt k h =
      ap (landing place st k (keeps && builtin_runs profile name (operands k st)))
      (call-moved place w n profile name (types w tplt) (types w (numbers (operands k st))) (marks_of (operands k st)) ∙ ap (moved place) (call-call profile name tplt k h))

  pub call-single : (keeps : Bool) (profile : ℕ) (name : List ℕ) (k : ℕ) → k ≤ height st
      → call_effect keeps profile place st name k ≡ landing place st k (keeps && builtin_runs profile name (operands k st)) (moved place (type_builtin_fn profile w n name [] (operands k st)))
  unfolding call_effect all_under
  call-single keeps profile name k l = rw (le-leb k (height st) l) (calling-single keeps profile name [] k refl)

  -- a template that is no type's number is 2, of the item and of the single call
  no-template : (b : Bool) (profile : ℕ) (name : List ℕ) (t k : ℕ) → ltb t n ≡ false
      → stop NoSuchType place st ≡ landing place st k b (moved place (type_builtin_fn profile w n name (t ∷ []) (operands k st)))
  unfolding type_builtin_fn all_under onto is_valued
  no-template b profile name t k h = sym (rw (sound, h, and-false (leb most (height st - k))))

  pub template-single : (keeps : Bool) (profile : ℕ) (name : List ℕ) (t k : ℕ) → k ≤ height st
      → template_effect keeps profile place st name t k ≡ landing place st k (keeps && builtin_runs profile name (operands k st)) (moved place (type_builtin_fn profile w n name (t ∷ []) (operands k st)))
  unfolding template_effect all_under
  template-single keeps profile name t k l =
      rw (le-leb k (height st) l)
      (split (ltb t n)
      (λ b. rw b (calling-single keeps profile name (t ∷ []) k (rw b)))
      (λ b. rw b (no-template (keeps && builtin_runs profile name (operands k st)) profile name t k b)))

  -- TAKE, on a stack that has room for one value more

  -- an entry that is not allowed is 5, of the item and of the host's call
  not_entered : (e : Entry) (m : Bool) → allowedb w n e ≡ false → stop Template place st ≡ onto st.stack m (moved place (enter_type w n e))
  unfolding enter_type_reply enter_type_words onto
  not_entered e m h = sym (rw (sound, h))

  pub take-single : (e : Entry) (m : Bool) → height st < most → take_effect place st e m ≡ onto st.stack m (moved place (enter_type w n e))
  unfolding take_effect
  take-single e m l =
      rw (lt-ltb (height st) most l)
      (split (allowedb w n e)
      (λ b. rw b (ap (onto st.stack m) (entering-moved place w n (ty_of w e) ∙ ap (moved place) (sym (enter-call w n good.sound e sound b)))))
      (λ b. rw b (not_entered e m b)))
