-- The memo of a run: types that operators and calls of builtins gave. A slot is 0, or what was asked, a digit for each of its operands, and the number of the type that it
-- gave. The mark of a result is not kept: it follows from the digits. What it holds is true of the table as it stands and of every table that grows from it, so a value that is recalled is the one that typing
-- would give. The promise of `type_sheet` is read without it. Assumes nothing.
use Rattle.std.specs.Prelude.{ℕ, zero, suc, ◌+◌, ◌-◌, ◌*◌, ◌%◌, ◌<◌, ◌≤◌, ◌≡◌, ◌⊎◌, Bool, false, cond, Option, Some, None, List, [], map, leb, length, get_or}
use Rattle.held.specs.Held.{number_of, mark_of}
use Rattle.answer.specs.declared.TypeNo.{TypeNo}
use Rattle.conv.specs.Types.{Ty}
use Rattle.table.specs.Denote.{type_at}
use Rattle.table.specs.Placing.{Outcome, entering}
use Rattle.ops_ty.specs.Ops.{unary_ops, binary_ops, unary_outcome, binary_outcome}
use Rattle.call_ty.specs.Calls.{first_in, second_in, types}
use Rattle.call_ty.specs.inner.Codes.{by_number, Under}
use Rattle.step.specs.declared.Did.{Did}
use Rattle.step.specs.declared.Did.TheVariants as did

-- how many slots there are
abbrev pub slots : ℕ
slots = 256

-- how many numbers the memo has: behind the slots stand the hints, rows in which names were found. Nothing is known of them: whether a row has a name is asked of the names
abbrev pub room : ℕ
room = 320

-- what is asked: a binary operator, a unary one, or a builtin by the number of its rule
pub data Question : Type 0 where
  binary : ℕ → Question
  unary : ℕ → Question
  builtin : ℕ → Question

-- its code
abbrev pub code_of : Question → ℕ
code_of (binary op) = op + 1
code_of (unary op) = op + 19
code_of (builtin number) = number + 24

-- it is one that the memo may have, on k operands
abbrev pub On : Question → ℕ → Type 0
On (binary op) k = (op < binary_ops) × (k ≡ 2)
On (unary op) k = (op < unary_ops) × (k ≡ 1)
On (builtin number) k = (number < 128) × (1 ≤ k) × (k ≤ 3)

-- what typing gives, on operands of these types and marks
abbrev pub typed : ℕ → List ℕ → ℕ → Question → List Ty → List Bool → Outcome
typed place w n (binary op) us ms = binary_outcome place w n op (first_in us) (second_in us) (get_or ms 0 false) (get_or ms 1 false)
typed place w n (unary op) us ms = unary_outcome place w n op (first_in us) (get_or ms 0 false)
typed place w n (builtin number) us ms = by_number place w n number [] us ms

-- on operands of these types and marks it gives the type R, whatever the table and the place
abbrev pub Gives : Question → List Ty → List Bool → Ty → Type 0
Gives q us ms R = (place : ℕ) (w : List ℕ) (n : ℕ) → typed place w n q us ms ≡ entering place w n R

-- THE DIGIT of an operand: the number of its type, which is below 256, and 256 more where it is running
abbrev pub digit_of : ℕ → ℕ
digit_of v = cond (mark_of v) (number_of v + 256) (number_of v)

abbrev pub digits : List ℕ → List ℕ
digits vs = map digit_of vs

-- what a digit says
abbrev pub number_in : ℕ → ℕ
number_in d = d % 256

abbrev pub numbers_in : List ℕ → List ℕ
numbers_in ds = map number_in ds

abbrev pub mark_in : ℕ → Bool
mark_in d = leb 256 d

abbrev pub marks_in : List ℕ → List Bool
marks_in ds = map mark_in ds

-- the key: a code, and the first k of the operands' digits
unfoldable pub key_up : ℕ → List ℕ → ℕ → ℕ
key_up code vs zero = code
key_up code vs (suc k) = key_up code vs k * 512 + get_or vs k 0

abbrev pub key_of : ℕ → List ℕ → ℕ
key_of code vs = key_up code vs (length vs)

abbrev pub slot_of : ℕ → ℕ → ℕ
slot_of key t = key * 256 + t

-- what a slot says is so
pub record Holds (w : List ℕ) (n x : ℕ) : Type 0 where
  pub holds : (q : Question) (ds : List ℕ) (t : ℕ) → On q (length ds) → Under 512 ds → t < 256 → x ≡ slot_of (key_of (code_of q) ds) t
      → Under n (numbers_in ds) × (t < n) × Gives q (types w (numbers_in ds)) (marks_in ds) (type_at w t)

pub record Recalls (memo w : List ℕ) (n : ℕ) : Type 0 where
  pub size : length memo ≡ room
  pub holds : (i : ℕ) → i < slots → Holds w n (get_or memo i 0)

-- what a hint that is written promises: every slot has what it had
pub record Hinted (memo after : List ℕ) : Type 0 where
  pub size : length after ≡ length memo
  pub each : (i : ℕ) → i < slots → get_or after i 0 ≡ get_or memo i 0

-- what looking a key up promises: nothing, or a value that a slot has with this key
abbrev pub Recalled : List ℕ → ℕ → Option TypeNo → Type 0
Recalled memo key None = Unit {0}
Recalled memo key (Some t) = (t.0 < 256) × ((i : ℕ) × (i < slots) × (get_or memo i 0 ≡ slot_of key t.0))

-- what a note promises: a slot has it, or what some slot had
pub record Noted (memo : List ℕ) (key t : ℕ) (after : List ℕ) : Type 0 where
  pub size : length after ≡ length memo
  pub each : (i : ℕ) → i < slots → (get_or after i 0 ≡ slot_of key t) ⊎ ((j : ℕ) × (j < slots) × (get_or after i 0 ≡ get_or memo j 0))

-- what an item left is a value of the slice, its number below 256; and what noting it promises
unfoldable pub Leaves : Did → List ℕ → Type 0
Leaves (did.Went count used) vals = (1 ≤ count) × (count ≤ length vals) × (number_of (get_or vals (count - 1) 0) < 256)
Leaves (did.Silent count used) vals = Unit {0}
Leaves (did.Ended count used) vals = Unit {0}
Leaves (did.Refused r) vals = Unit {0}

unfoldable pub NotedStep : List ℕ → ℕ → Did → List ℕ → List ℕ → Type 0
NotedStep memo key (did.Went count used) vals after = Noted memo key (number_of (get_or vals (count - 1) 0)) after
NotedStep memo key (did.Silent count used) vals after = after ≡ memo
NotedStep memo key (did.Ended count used) vals after = after ≡ memo
NotedStep memo key (did.Refused r) vals after = after ≡ memo

-- the memo after an item that went
unfoldable pub AfterStep : Did → List ℕ → List ℕ → Type 0
AfterStep (did.Went count used) memo w = Recalls memo w used
AfterStep (did.Silent count used) memo w = Unit {0}
AfterStep (did.Ended count used) memo w = Unit {0}
AfterStep (did.Refused r) memo w = Unit {0}
