-- What the code goes by: operands by their numbers, and the lists that a caller of `call_at` has checked. The promise of a call is read without it.
-- Assumes nothing.
use Rattle.std.specs.Prelude.{ℕ, ◌%◌, ◌<◌, ◌≡◌, Bool, true, false, ◌&&◌, List, map, ltb, length, get_or, take, Option, Some, None}
use Rattle.conv.specs.Types.{Ty}
use Rattle.overload.specs.inner.Code.{code_of}
use Rattle.ruled.specs.Call.{any_reference}
use Rattle.names.specs.Names.Named.{rule}
use Rattle.names.specs.inner.Table.{numbered, meant}
use Rattle.names.specs.declared.Rule.TheVariants as code
use Rattle.table.specs.Placing.{Outcome}
use Rattle.call_ty.specs.Calls.{is_numeric, by_rule}

-- a call by the number of its rule
abbrev pub by_number : ℕ → List ℕ → ℕ → ℕ → List Ty → List Ty → List Bool → Outcome
by_number place w n k ts us ms = by_rule place w n (rule (numbered k) false) ts us ms

-- and by the rule that the code's enum means
abbrev pub by_meant : ℕ → List ℕ → ℕ → code.the_data → List Ty → List Ty → List Bool → Outcome
by_meant place w n r ts us ms = by_rule place w n (rule (meant r) false) ts us ms

-- every number of the list is below n
abbrev pub Under : ℕ → List ℕ → Type 0
Under n ts = (i : ℕ) → i < length ts → get_or ts i 0 < n

-- the operands' numbers stand in front, where none is a reference
abbrev pub Loaded : List Ty → Option (List ℕ) → Type 0
Loaded us (Some codes) = (any_reference us ≡ false) × (take (length us) codes ≡ map code_of us)
Loaded us None = any_reference us ≡ true

-- a numeric scalar or vector, by its number
abbrev pub numeric_code : ℕ → Bool
numeric_code x = ltb x 28 && is_numeric (x % 7)
