-- No second effect meets the promise of `step`: every value of the stack, the count, and every word of the table; the words of the lent slice above the stack are left open (docs/OPEN_PROMISES.md). Assumes nothing.
use Prim.Native.Nat.{ℕ}
use mathlib.Core.Path.{◌≡◌, sym, ◌∙◌}
use mathlib.Core.List.{List}
use Rattle.step.specs.declared.Did.{Did}
use Rattle.step.specs.Effect.{Effect}
use Rattle.step.specs.inner.Code.{effect_by, Does}

pub step-one : {e : Effect} {r q : Did} {vals vals' w w' : List ℕ} → Does e r vals w → Does e q vals' w' → effect_by r vals w ≡ effect_by q vals' w'
step-one a b = a.effect ∙ sym b.effect
