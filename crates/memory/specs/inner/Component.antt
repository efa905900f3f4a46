-- The component that a call on atomics has, as the code hands it on. The promise of a call is read without it. Assumes nothing.
use Rattle.std.specs.Prelude.{ℕ, ◌<◌, ◌&&◌, cond, List, length, get_or, Option, Some, None}
use Rattle.conv.specs.Types.{Ty}
use Rattle.held.specs.Held.{number_of}
use Rattle.overload.specs.Overload.{fits}
use Rattle.overload.specs.Rows.{values, takes_atomic, atomic_in}

-- the types of operands are below n
abbrev pub Below : ℕ → List ℕ → Type 0
Below n vs = (i : ℕ) → i < length vs → number_of (get_or vs i 0) < n

-- the component of the atomic to which the first operand x points, where a call takes it and every other operand converts to the component
abbrev pub atomic_component : Ty → List Ty → Option ℕ
atomic_component x xs = cond (takes_atomic x && fits (values (length xs) (atomic_in x)) xs) (Some (atomic_in x)) None
