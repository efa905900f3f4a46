-- Document 01, "The sheet" and "What is answered", and document 02, K1 and K3: what an item does in a profile. Its effect is that of the single call on the operands that
-- the stack holds, with their marks. Assumes nothing.
use Rattle.std.specs.Prelude.{ℕ, ◌-◌, Bool, true, false, ◌&&◌, cond, List, [], ◌∷◌, ◌++◌, length, get_or, take, drop, eqb, ltb, leb}
use Rattle.held.specs.Held.{value_of, number_of, mark_of}
use Rattle.conv.specs.Types.{Ty}
use Rattle.table.specs.Table.{allowedb}
use Rattle.table.specs.Denote.{type_at, ty_of}
use Rattle.table.specs.Placing.{Outcome, entering}
use Rattle.table.specs.declared.Entry.{Entry}
use Rattle.answer.specs.Answer.{reason_no}
use Rattle.answer.specs.declared.Reason.{Reason}
use Rattle.answer.specs.declared.Reason.TheVariants.{NoSuchType, Template, Framing, Stack}
use Rattle.answer.specs.declared.Refusal.{Refusal}
use Rattle.answer.specs.declared.Answer.{Answer}
use Rattle.answer.specs.declared.Answer.TheVariants.{Value, NoValue, Refused}
use Rattle.frame.specs.declared.Part.{Part}
use Rattle.frame.specs.declared.Item.{Item}
use Rattle.frame.specs.declared.Item.TheVariants.{Push, Unary, Binary, Call, CallTemplate, Take, End, Bad}
use Rattle.frame.specs.Frame.{marked}
use Rattle.overload.specs.Marks.{any_running}
use Rattle.ops_ty.specs.Ops.{unary_outcome, binary_outcome}
use Rattle.call_ty.specs.Calls.{numbers, marks_of, types, call_outcome, builtin_runs}

-- THE STACK

-- "its stack holds 64 values"
abbrev pub most : ℕ
most = 64

-- the machine's state: the stack from its bottom, the used count, and every word of the table
pub record State : Type 0 where
  pub stack : List ℕ
  pub used : ℕ
  pub words : List ℕ

abbrev pub height : State → ℕ
height st = length st.stack

-- "Operands leave the stack in written order": the values of k operands, the deepest first; and what is left below them
abbrev pub operands : ℕ → State → List ℕ
operands k st = drop (height st - k) st.stack

abbrev pub below : ℕ → State → List ℕ
below k st = take (height st - k) st.stack

-- the type that a value stands for
abbrev pub type_of : State → ℕ → Ty
type_of st v = type_at st.words (number_of v)

-- WHAT AN ITEM DOES

-- the next state; the state that a call without value leaves; the state in which the items end; or a refusal, and every word of the table then
pub data Effect : Type 0 where
  goes : State → Effect
  silent : State → Effect
  ends : State → Effect
  stops : Refusal → List ℕ → Effect

abbrev pub stop : Reason → ℕ → State → Effect
stop reason place st = stops (record { reason = reason; place = record { 0 = place }; used = st.used }) st.words

-- a type's number, with a mark, as one value more
abbrev pub pushed : List ℕ → ℕ → Bool → List ℕ
pushed vs t m = vs ++ (value_of t m ∷ [])

-- a call's outcome, over the values that stand below its operands: its value is pushed with a mark
abbrev pub answered : List ℕ → Bool → Answer → List ℕ → Effect
answered vs m (Value t used) w = goes (record { stack = pushed vs t.0 m; used = used; words = w })
answered vs m (NoValue used) w = silent (record { stack = vs; used = used; words = w })
answered vs m (Refused r) w = stops r w

unfoldable pub onto : List ℕ → Bool → Outcome → Effect
onto vs m o = answered vs m o.answer o.words

-- the bytes of a name
abbrev pub bytes_of : List ℕ → Part → List ℕ
bytes_of s p = take p.length (drop p.start.0 s)

-- the entry that a take asks for
abbrev pub entry_of : ℕ → ℕ → ℕ → ℕ → Entry
entry_of kind p q elem = record { kind = kind; p = p; q = q; elem = elem }

-- an answer by which a value comes, or would come if the table had room for it
unfoldable pub is_valued : Answer → Bool
is_valued (Value t m) = true
is_valued (NoValue m) = false
is_valued (Refused r) = eqb (reason_no r.reason) 9

-- an item at a place of the sheet. "10, 11, then the call's order; push gives 2 before 11, take gives 5, 11, 9"

module _ (place : ℕ) (st : State) where
  -- 11 where the stack has fewer than k values
  abbrev pub having : ℕ → Effect → Effect
  having k e = cond (leb k (height st)) e (stop Stack place st)

  -- 11 for a 65th value
  abbrev pub holding : Effect → Effect
  holding e = cond (ltb (height st) most) e (stop Stack place st)

  -- 1 push, with its mark
  unfoldable pub push_effect : ℕ → Bool → Effect
  push_effect t m =
      cond (ltb t st.used)
      (holding (goes (record { stack = pushed st.stack t m; used = st.used; words = st.words })))
      (stop NoSuchType place st)

  -- 6 take: "enters the type and pushes it", with its mark
  unfoldable pub take_effect : Entry → Bool → Effect
  take_effect e m =
      cond (allowedb st.words st.used e)
      (holding (onto st.stack m (entering place st.words st.used (ty_of st.words e))))
      (stop Template place st)

  -- a call's outcome in the place of its k operands; "11 for that 65th value, before 9"
  abbrev pub landing : ℕ → Bool → Outcome → Effect
  landing k m o = cond (leb most (height st - k) && is_valued o.answer) (stop Stack place st) (onto (below k st) m o)

-- "a result is const when all operands are"; in a sheet of version 1 no mark is kept on a result: keeps says whether one is

module _ (keeps : Bool) (place : ℕ) (st : State) where
  abbrev pub operator_mark : ℕ → Bool
  operator_mark k = keeps && any_running (marks_of (operands k st))

  unfoldable pub unary_effect : ℕ → Effect
  unary_effect op =
      having place st 1
      (onto (below 1 st) (operator_mark 1) (unary_outcome place st.words st.used op (type_of st (get_or (operands 1 st) 0 0)) (mark_of (get_or (operands 1 st) 0 0))))

  unfoldable pub binary_effect : ℕ → Effect
  binary_effect op =
      having place st 2
      (onto (below 2 st) (operator_mark 2)
      (binary_outcome place st.words st.used op (type_of st (get_or (operands 2 st) 0 0)) (type_of st (get_or (operands 2 st) 1 0)) (mark_of (get_or (operands 2 st) 0 0)) (mark_of (get_or (operands 2 st) 1 0))))

-- only calls of builtins look at the profile

module _ (keeps : Bool) (profile place : ℕ) (st : State) where
  -- a call of k operands, with the types of its template list
  abbrev pub calling : List ℕ → List Ty → ℕ → Effect
  calling name ts k =
      landing place st k (keeps && builtin_runs profile name (operands k st))
      (call_outcome profile place st.words st.used name ts (types st.words (numbers (operands k st))) (marks_of (operands k st)))

  unfoldable pub call_effect : List ℕ → ℕ → Effect
  call_effect name k = having place st k (calling name [] k)

  -- the template's number is the only one of a sheet's call that can be no type's
  unfoldable pub template_effect : List ℕ → ℕ → ℕ → Effect
  template_effect name t k =
      having place st k (cond (ltb t st.used) (calling name (type_at st.words t ∷ []) k) (stop NoSuchType place st))

-- an item of the sheet s, whose version says whether marks are kept
module _ (profile place : ℕ) (st : State) where
  unfoldable pub effect_of : List ℕ → Item → Effect
  effect_of s (Push t m) = push_effect place st t.0 m
  effect_of s (Unary op) = unary_effect (marked s) place st op
  effect_of s (Binary op) = binary_effect (marked s) place st op
  effect_of s (Call k name) = call_effect (marked s) profile place st (bytes_of s name) k
  effect_of s (CallTemplate t k name) = template_effect (marked s) profile place st (bytes_of s name) t.0 k
  effect_of s (Take kind p q elem m) = take_effect place st (entry_of kind p q elem) m
  effect_of s End = ends st
  effect_of s Bad = stop Framing place st
