-- What the code goes by: a stack is the first values of a lent slice. Assumes nothing.
use Rattle.std.specs.Prelude.{ℕ, ◌≤◌, ◌<◌, ◌≡◌, Bool, false, cond, Option, Some, None, List, length, get_or, take, eqb}
use Rattle.conv.specs.Types.{Ty}
use Rattle.table.specs.Table.{Sound}
use Rattle.answer.specs.declared.Place.{Place}
use Rattle.answer.specs.declared.Reason.{Reason}
use Rattle.answer.specs.declared.TypeNo.{TypeNo}
use Rattle.answer.specs.declared.Answer.{Answer}
use Rattle.answer.specs.declared.Answer.TheVariants.{Value, NoValue, Refused}
use Rattle.table.specs.Placing.{Outcome}
use Rattle.ops_ty.specs.Ops.{unary_outcome, binary_outcome}
use Rattle.call_ty.specs.Calls.{first_in, second_in, numbers}
use Rattle.call_ty.specs.inner.Codes.{Under}
use Rattle.step.specs.declared.Did.{Did}
use Rattle.step.specs.declared.Did.TheVariants as did
use Rattle.step.specs.Effect.{most, State, Effect, goes, silent, ends, stops, onto, unary_effect, binary_effect, call_effect, template_effect}

-- the state of a slice of values of which the first are the stack
abbrev pub state_of : ℕ → List ℕ → ℕ → List ℕ → State
state_of count vals used words = record { stack = take count vals; used = used; words = words }

-- a state that a run reaches: the table is sound, every value has a number of it, and the stack is no higher than it may be
pub record Good (st : State) : Type 0 where
  pub sound : Sound st.words st.used
  pub under : Under st.used (numbers st.stack)
  pub high : length st.stack ≤ most

-- what the functions of one item ask for
pub record Ready (count : ℕ) (vals : List ℕ) (used : ℕ) (words : List ℕ) : Type 0 where
  pub size : length vals ≡ most
  pub fits : count ≤ most
  pub good : Good (state_of count vals used words)

-- OPERATORS by the count of their operands: one or two
abbrev pub Arity : ℕ → Type 0
Arity k = (1 ≤ k) × (k ≤ 2)

abbrev pub mark_in : List Bool → ℕ → Bool
mark_in ms i = get_or ms i false

unfoldable pub operator_outcome : ℕ → List ℕ → ℕ → ℕ → List Ty → List Bool → Outcome
operator_outcome place w n op us ms =
    cond (eqb (length us) 1) (unary_outcome place w n op (first_in us) (mark_in ms 0)) (binary_outcome place w n op (first_in us) (second_in us) (mark_in ms 0) (mark_in ms 1))

unfoldable pub operator_effect : Bool → ℕ → ℕ → State → ℕ → Effect
operator_effect keeps k place st op = cond (eqb k 1) (unary_effect keeps place st op) (binary_effect keeps place st op)

-- CALLS, with or without a template
abbrev pub called_effect : Bool → ℕ → ℕ → State → List ℕ → Option TypeNo → ℕ → Effect
called_effect keeps profile place st name None k = call_effect keeps profile place st name k
called_effect keeps profile place st name (Some t) k = template_effect keeps profile place st name t.0 k

-- an answer whose value can be pushed over the values below
abbrev pub Pushes : ℕ → Answer → Type 0
Pushes base (Value t m) = (base < most) × (t.0 < 256)
Pushes base (NoValue m) = Unit {0}
Pushes base (Refused r) = Unit {0}

-- a refusal, as the code answers it
abbrev pub turned_away : Reason → Place → ℕ → Did
turned_away reason place used = did.Refused (record { reason = reason; place = place; used = used })

-- an effect, by the code's answer, the values and the words
unfoldable pub effect_by : Did → List ℕ → List ℕ → Effect
effect_by (did.Went count used) vals words = goes (state_of count vals used words)
effect_by (did.Silent count used) vals words = silent (state_of count vals used words)
effect_by (did.Ended count used) vals words = ends (state_of count vals used words)
effect_by (did.Refused r) vals words = stops r words

-- the counted values lie within the slice
unfoldable pub Counted : Did → Type 0
Counted (did.Went count used) = count ≤ most
Counted (did.Silent count used) = count ≤ most
Counted (did.Ended count used) = count ≤ most
Counted (did.Refused r) = Unit {0}

-- what the functions of one item promise
pub record Does (e : Effect) (r : Did) (vals words : List ℕ) : Type 0 where
  pub effect : effect_by r vals words ≡ e
  pub counted : Counted r

-- what putting an answer on the stack, with a mark, promises, whatever words stand in the table
pub record Settles (base : ℕ) (before : List ℕ) (m : Bool) (a : Answer) (r : Did) (vals : List ℕ) : Type 0 where
  pub effect : (words : List ℕ) → effect_by r vals words ≡ onto (take base before) m (record { answer = a; words = words })
  pub counted : Counted r
