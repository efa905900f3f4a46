-- What each item asks, from what the single call was asked. Assumes nothing.
use Prim.Native.Nat.{ℕ, ◌-◌, ◌<◌, ◌≤◌}
use mathlib.Core.Path.{◌≡◌, refl, sym, subst}
use mathlib.Core.Bool.{Bool, true, false}
use mathlib.Core.List.{List, [], ◌∷◌}
use native.Mathlib.Omega.{arith}
use lib.ListN.{length, get_or, take, drop}
use Rattle.std.proofs.lemmas.List.{length-take}
use lib.ListN.{length-drop}
use lib.Dec.{leb}
use borrow.Author.Tests.{le-leb, lt-leb, lt-ltb, le-ltb, leb-true, leb-false}
use Rattle.answer.specs.declared.Answer.{Answer}
use Rattle.step.specs.Effect.{State, height, operands}
use Rattle.step.specs.inner.Code.{state_of, Ready}
use Rattle.step.proofs.StackLaws.{sized, operands-lent}
use Rattle.why.specs.inner.Asks.{Asked, Asks}
use Rattle.why.specs.Why.{unary_pieces, binary_pieces, call_pieces}
use Rattle.desk.specs.declared.Query.{Query}
use Rattle.ops_ty.specs.Ops.{type_unary_op, type_binary_op}
use Rattle.call_ty.specs.Calls.{type_builtin_fn}
use Rattle.desk.specs.Desk.{having, unary_lines, binary_lines, call_lines, template_lines}
use Rattle.desk.specs.inner.Code.{Queries}
use Rattle.std.proofs.Common.{Option, Some, None}

single : (xs : List ℕ) → length xs ≡ 1 → xs ≡ get_or xs 0 0 ∷ []
single [] h = absurd (omega arith)
single (x ∷ []) h = refl
single (x ∷ y ∷ xs) h = absurd (omega arith)

pair : (xs : List ℕ) → length xs ≡ 2 → xs ≡ get_or xs 0 0 ∷ get_or xs 1 0 ∷ []
pair [] h = absurd (omega arith)
pair (x ∷ []) h = absurd (omega arith)
pair (x ∷ y ∷ []) h = refl
pair (x ∷ y ∷ z ∷ xs) h = absurd (omega arith)

module _ (count : ℕ) (vals : List ℕ) (used : ℕ) (w : List ℕ) (ready : Ready count vals used w) where
  abbrev st : State
  st = state_of count vals used w

  fits : count ≤ length vals
  fits = omega (arith, ready.size, ready.fits)

  -- where values lack, nothing is asked
  short : (k : ℕ) → count < k → leb k (height st) ≡ false
  short k h = lt-leb k (height st) (omega (arith, sized count vals fits))

  enough : (k : ℕ) → k ≤ count → leb k (height st) ≡ true
  enough k h = le-leb k (height st) (omega (arith, sized count vals fits))

  pub none : Queries [] None vals w
  none = record { asking = tt; pieces = refl }

  pub template-short : (profile : ℕ) (name : List ℕ) (t k : ℕ) → used ≤ t → Queries (template_lines st profile name t k) None vals w
  unfolding template_lines
  template-short profile name t k h = rw (le-ltb t used h) none

  -- a template that is one of the table's
  pub template-call : (profile : ℕ) (name : List ℕ) (t k : ℕ) {q : Option Query} → t < used → Queries (call_lines st profile name (t ∷ []) k) q vals w → Queries (template_lines st profile name t k) q vals w
  unfolding template_lines
  template-call profile name t k h g = rw (lt-ltb t used h) g

  -- the operands of the lines are the values that are lent
  module _ (k : ℕ) (h : k ≤ count) where
    abbrev lent : List ℕ
    lent = take (count - (count - k)) (drop (count - k) vals)

    args : operands k st ≡ lent
    args = operands-lent count vals fits k h

    asking : (pieces : List (List ℕ)) (a : Answer) {x : Asked} → Asks w used lent pieces a x → Queries pieces (Some (record { asked = x; used = used; first = count - k; end = count })) vals w
    asking pieces a {x} g = record { asking = record { tells = g.tells; order = omega arith; fits = fits }; pieces = g.pieces }

  -- what is asked on the last k of the values, where there are as many
  pub asked-on : (k : ℕ) (ps : List ℕ → List (List ℕ)) (an : List ℕ → Answer) {r : Option Query} → (count < k → r ≡ None)
      → ((h : k ≤ count) → (x : Asked) × Asks w used (lent k h) (ps (lent k h)) (an (lent k h)) x × (r ≡ Some (record { asked = x; used = used; first = count - k; end = count }))) → Queries (having st k (ps (operands k st))) r vals w
  asked-on k ps an {r} s f = go (leb k count) refl
    where
      go : (b : Bool) → leb k count ≡ b → Queries (having st k (ps (operands k st))) r vals w
      go true e = let h = leb-true k count e in let g = f h in rw (enough k h, args k h, g.2) (asking k h (ps (lent k h)) (an (lent k h)) g.1)
      go false e = let h = leb-false k count e in rw (short k h, s h) none

  -- the last one and the last two, value by value
  long : (k : ℕ) (h : k ≤ count) → length (lent k h) ≡ k
  long k h = omega (arith, length-take (count - (count - k)) (drop (count - k) vals), length-drop (count - k) vals, fits)

  pub one : (h : 1 ≤ count) → lent 1 h ≡ get_or (lent 1 h) 0 0 ∷ []
  one h = single (lent 1 h) (long 1 h)

  pub two : (h : 2 ≤ count) → lent 2 h ≡ get_or (lent 2 h) 0 0 ∷ get_or (lent 2 h) 1 0 ∷ []
  two h = pair (lent 2 h) (long 2 h)

  pub unary-on : (op : ℕ) {r : Option Query} → (count < 1 → r ≡ None)
      → ((h : 1 ≤ count) → (x : Asked) × Asks w used (get_or (lent 1 h) 0 0 ∷ []) (unary_pieces w used op (get_or (lent 1 h) 0 0)) ((type_unary_op w used op (get_or (lent 1 h) 0 0)).answer) x × (r ≡ Some (record { asked = x; used = used; first = count - 1; end = count }))) → Queries (unary_lines st op) r vals w
  unfolding unary_lines
  unary-on op s f =
      asked-on 1 (λ xs. unary_pieces w used op (get_or xs 0 0)) (λ xs. (type_unary_op w used op (get_or xs 0 0)).answer) s
      (λ h. let g = f h in (g.0, subst (λ (xs : List ℕ). Asks w used xs (unary_pieces w used op (get_or (lent 1 h) 0 0)) ((type_unary_op w used op (get_or (lent 1 h) 0 0)).answer) g.0) (sym (one h)) g.1, g.2))

  pub binary-on : (op : ℕ) {r : Option Query} → (count < 2 → r ≡ None)
      → ((h : 2 ≤ count) → (x : Asked) × Asks w used (get_or (lent 2 h) 0 0 ∷ get_or (lent 2 h) 1 0 ∷ []) (binary_pieces w used op (get_or (lent 2 h) 0 0) (get_or (lent 2 h) 1 0)) ((type_binary_op w used op (get_or (lent 2 h) 0 0) (get_or (lent 2 h) 1 0)).answer) x × (r ≡ Some (record { asked = x; used = used; first = count - 2; end = count }))) → Queries (binary_lines st op) r vals w
  unfolding binary_lines
  binary-on op s f =
      asked-on 2 (λ xs. binary_pieces w used op (get_or xs 0 0) (get_or xs 1 0)) (λ xs. (type_binary_op w used op (get_or xs 0 0) (get_or xs 1 0)).answer) s
      (λ h. let g = f h in (g.0, subst (λ (xs : List ℕ). Asks w used xs (binary_pieces w used op (get_or (lent 2 h) 0 0) (get_or (lent 2 h) 1 0)) ((type_binary_op w used op (get_or (lent 2 h) 0 0) (get_or (lent 2 h) 1 0)).answer) g.0) (sym (two h)) g.1, g.2))

  pub call-on : (profile : ℕ) (name tplt : List ℕ) (k : ℕ) {r : Option Query} → (count < k → r ≡ None)
      → ((h : k ≤ count) → (x : Asked) × Asks w used (lent k h) (call_pieces profile w used name tplt (lent k h)) (type_builtin_fn profile w used name tplt (lent k h)).answer x × (r ≡ Some (record { asked = x; used = used; first = count - k; end = count }))) → Queries (call_lines st profile name tplt k) r vals w
  unfolding call_lines
  call-on profile name tplt k s f = asked-on k (call_pieces profile w used name tplt) (λ xs. (type_builtin_fn profile w used name tplt xs).answer) s f
