-- Document 01, "What is answered", and document 02, K2 and K3: the number of each refusal, the numbers of an answer, and the mark of its value. Assumes nothing.
use Rattle.std.specs.Prelude.{ℕ, ◌≡◌, Bool, true, false, ◌&&◌, List, [], ◌∷◌}
use Rattle.answer.specs.declared.TypeNo.{TypeNo}
use Rattle.answer.specs.declared.Place.{Place}
use Rattle.answer.specs.declared.Reason.{Reason}
use Rattle.answer.specs.declared.Reason.TheVariants.{Unsound, NoSuchType, Reference, Unknown, Template, Count, Operands, NoOverload, NoRoom, Framing, Stack, TooLong, RunningAbstract}
use Rattle.answer.specs.declared.Answer.{Answer}
use Rattle.answer.specs.declared.Answer.TheVariants.{Value, NoValue, Refused}
use Rattle.answer.specs.declared.Typed.{Typed}

-- one line for each row: table not sound, or slice shorter than 4n; type number not below n; a reference offered, but to unary `&`;
-- unknown operator or name; template list or entry wrong, missing, or not wanted; array count; wrong operand count;
-- no overload fits, or crate rule not met; result absent, and the slice or 256 leaves too little room;
-- sheet header, framing, kind or payload length; stack short, a 65th value, or wrong end; spelling longer than the output;
-- a running operand abstract at any depth
abbrev pub reason_no : Reason → ℕ
reason_no Unsound = 1
reason_no NoSuchType = 2
reason_no Reference = 3
reason_no Unknown = 4
reason_no Template = 5
reason_no Count = 6
reason_no Operands = 7
reason_no NoOverload = 8
reason_no (NoRoom k) = 9
reason_no Framing = 10
reason_no Stack = 11
reason_no TooLong = 12
reason_no RunningAbstract = 14

-- "Refusal 9 should carry how many entries lack"; "Other replies carry 0"
abbrev pub lacking_of : Reason → ℕ
lacking_of Unsound = 0
lacking_of NoSuchType = 0
lacking_of Reference = 0
lacking_of Unknown = 0
lacking_of Template = 0
lacking_of Count = 0
lacking_of Operands = 0
lacking_of NoOverload = 0
lacking_of (NoRoom k) = k
lacking_of Framing = 0
lacking_of Stack = 0
lacking_of TooLong = 0
lacking_of RunningAbstract = 0

-- an answer in the documents' numbers: the refusal's number, 0 for none; the type's number, or nothing; the place; the used count; how many entries lack
pub record Numbers : Type 0 where
  pub refusal : ℕ
  pub value : List ℕ
  pub place : ℕ
  pub used : ℕ
  pub lacking : ℕ

-- an accepted call gives a type number or "no value", and the used count; a refusal gives its number, place and used count
abbrev pub numbers_of : Answer → Numbers
numbers_of (Value t used) = record { refusal = 0; value = t.0 ∷ []; place = 0; used = used; lacking = 0 }
numbers_of (NoValue used) = record { refusal = 0; value = []; place = 0; used = used; lacking = 0 }
numbers_of (Refused r) = record { refusal = reason_no r.reason; value = []; place = r.place.0; used = r.used; lacking = lacking_of r.reason }

abbrev pub used_of : Answer → ℕ
used_of a = (numbers_of a).used

-- the answers, made of numbers
abbrev pub accept : ℕ → ℕ → Answer
accept t used = Value (record { 0 = t }) used

abbrev pub refuse : Reason → ℕ → ℕ → Answer
refuse reason place used = Refused (record { reason = reason; place = record { 0 = place }; used = used })

-- an answer with a value; and an answer with the mark of its value, true where it is known only when running. Without a value there is no mark
abbrev pub has_value : Answer → Bool
has_value (Value t used) = true
has_value (NoValue used) = false
has_value (Refused r) = false

abbrev pub marked_by : Bool → Answer → Typed
marked_by m a = record { answer = a; running = has_value a && m }

-- what the three that build an answer promise
pub record Accepted (t : TypeNo) (used : ℕ) (r : Answer) : Type 0 where
  pub made : r ≡ Value t used
  pub numbers : numbers_of r ≡ record { refusal = 0; value = t.0 ∷ []; place = 0; used = used; lacking = 0 }

pub record WithoutValue (used : ℕ) (r : Answer) : Type 0 where
  pub made : r ≡ NoValue used
  pub numbers : numbers_of r ≡ record { refusal = 0; value = []; place = 0; used = used; lacking = 0 }

pub record RefusedWith (reason : Reason) (place : Place) (used : ℕ) (r : Answer) : Type 0 where
  pub made : r ≡ Refused (record { reason = reason; place = place; used = used })
  pub numbers : numbers_of r ≡ record { refusal = reason_no reason; value = []; place = place.0; used = used; lacking = lacking_of reason }
