-- For each public function: no second reply, and no other words afterwards, meet its promise. Assumes nothing.
use Prim.Native.Nat.{ℕ}
use mathlib.Core.Path.{◌≡◌}
use mathlib.Core.List.{List}
use Rattle.overload.specs.Overload.{Judged}
use Rattle.answer.specs.declared.Answer.{Answer}
use Rattle.table.specs.Placing.{Gave}
use Rattle.table.proofs.OneReply.{gave_one}
use Rattle.ruled.specs.Call.{judged_outcome, silent_outcome}

-- `on_atomic`, `comparing`, `uniform_load` and `array_length` promise the outcome of their judgment, `storing` the silent one
pub judged-one : (place : ℕ) (w : List ℕ) (n : ℕ) (j : Judged) (r q : Answer) (v u : List ℕ) → Gave (judged_outcome place w n j) r v → Gave (judged_outcome place w n j) q u → (r ≡ q) × (v ≡ u)
judged-one place w n j r q v u = gave_one (judged_outcome place w n j) r q v u

pub storing-one : (place : ℕ) (w : List ℕ) (n : ℕ) (j : Judged) (r q : Answer) (v u : List ℕ) → Gave (silent_outcome place w n j) r v → Gave (silent_outcome place w n j) q u → (r ≡ q) × (v ≡ u)
storing-one place w n j r q v u = gave_one (silent_outcome place w n j) r q v u
