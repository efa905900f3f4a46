-- Document 02, K2: "Where used and missing entries together are at most 256, the same call in a slice longer by K entries must not give 9." Assumes nothing.
use Rattle.std.specs.Prelude.{ℕ, ◌+◌, ◌*◌, ◌≤◌, ◌<◌, ◌≡◌, List, length}
use Rattle.answer.specs.Answer.{refuse}
use Rattle.answer.specs.declared.Reason.TheVariants.{NoRoom}
use Rattle.table.specs.Table.{stride, ceiling, Keeps}
use Rattle.table.specs.Enter.{free}
use Rattle.table.specs.Placing.{Outcome}

-- v has the n entries of w, in a slice that is longer by k entries
pub record Longer (w v : List ℕ) (n k : ℕ) : Type 0 where
  pub keeps : Keeps w v n
  pub long : length v ≡ length w + k * stride

-- 9, with K entries lacking
abbrev pub Lacks : Outcome → ℕ → Type 0
Lacks o K = (place used : ℕ) × (o.answer ≡ refuse (NoRoom K) place used)

-- o is what a call comes to over w, o' what it comes to over a slice longer by k entries. Where o lacks K entries, so that K and the free ones are missing, and used and missing
-- ones together are at most 256: o' is no 9 where the slice is longer by K or more, and is 9 where it is longer by less
pub record Grown (w : List ℕ) (n k : ℕ) (o o' : Outcome) : Type 0 where
  pub enough : (K : ℕ) → Lacks o K → n + (K + free w n) ≤ ceiling → K ≤ k → (J : ℕ) → Lacks o' J → ⊥
  pub short : (K : ℕ) → Lacks o K → n + (K + free w n) ≤ ceiling → k < K → (J : ℕ) × Lacks o' J
