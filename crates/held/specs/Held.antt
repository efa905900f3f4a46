-- Document 02, K3: an operand, and a value of the stack, as one number: the type's, with a bit above it where the value is known only when running. Assumes nothing.
use Rattle.std.specs.Prelude.{ℕ, ◌+◌, ◌%◌, Bool, cond, leb}

-- the bit, above every number of a type
abbrev pub running_bit : ℕ
running_bit = 2147483648

abbrev pub value_of : ℕ → Bool → ℕ
value_of t m = t + cond m running_bit 0

-- the type's number, and the mark
abbrev pub number_of : ℕ → ℕ
number_of v = v % running_bit

abbrev pub mark_of : ℕ → Bool
mark_of v = leb running_bit v
