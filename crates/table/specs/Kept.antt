-- DEMAND 1, of a call's outcome. Assumes nothing.
use Rattle.std.specs.Prelude.{ℕ, ◌≤◌, ◌<◌, ◌≡◌, List}
use Rattle.conv.specs.Types.{Ty}
use Rattle.table.specs.Denote.{type_at}
use Rattle.table.specs.Stands.{Absent, Stands}
use Rattle.table.specs.Placing.{Outcome}
use Rattle.answer.specs.declared.TypeNo.{TypeNo}
use Rattle.answer.specs.declared.Refusal.{Refusal}
use Rattle.answer.specs.declared.Answer.TheVariants.{Value, NoValue, Refused}

-- "A refused call changes no lent byte or word", and tells the count that came in. "An accepted call leaves every earlier entry at its number and adds only
-- the missing entries its result needs": where a value is given, its type stands at its number in a sound table that grew by it and its parts alone, and each
-- entry that was added was missing. A call without value changes nothing
pub record Kept (w : List ℕ) (n : ℕ) (o : Outcome) : Type 0 where
  pub refused : (r : Refusal) → o.answer ≡ Refused r → o.words ≡ w
  pub counted : (r : Refusal) → o.answer ≡ Refused r → r.used ≡ n
  pub accepted : (t : TypeNo) (m : ℕ) → o.answer ≡ Value t m → (R : Ty) × Stands w n R t.0 m o.words
  pub missing : (t : TypeNo) (m : ℕ) → o.answer ≡ Value t m → (i : ℕ) → n ≤ i → i < m → Absent w n (type_at o.words i)
  pub without : (m : ℕ) → o.answer ≡ NoValue m → (o.words ≡ w) × (m ≡ n)
