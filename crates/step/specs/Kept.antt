-- What an item keeps of the table. Assumes nothing.
use Rattle.std.specs.Prelude.{ℕ, ◌-◌, ◌*◌, ◌≤◌, ◌<◌, ◌≡◌, List, length, get_or}
use Rattle.conv.specs.Types.{Ty}
use Rattle.table.specs.Table.{stride, Keeps}
use Rattle.table.specs.Denote.{type_at}
use Rattle.table.specs.Stands.{Absent, Part}
use Rattle.step.specs.Effect.{State, height, type_of}

-- a table of n entries in the words w became one of m entries in the words v: the earlier entries stand at their numbers with their words, and no
-- word behind the m entries changed
pub record Grew (w : List ℕ) (n : ℕ) (v : List ℕ) (m : ℕ) : Type 0 where
  pub more : n ≤ m
  pub keeps : Keeps w v n
  pub long : length v ≡ length w
  pub beyond : (k : ℕ) → m * stride ≤ k → get_or v k 0 ≡ get_or w k 0

-- the type of an item's result: that of the value on top of the stack
abbrev pub result_of : State → Ty
result_of st = type_of st (get_or st.stack (height st - 1) 0)

-- "adds only the missing entries its result needs": what an item added to the table was missing before it, and is its result or a part of its result
pub record Needed (st st' : State) : Type 0 where
  pub parts : (i : ℕ) → st.used ≤ i → i < st'.used → Part (type_at st'.words i) (result_of st')
  pub missing : (i : ℕ) → st.used ≤ i → i < st'.used → Absent st.words st.used (type_at st'.words i)
