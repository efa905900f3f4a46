-- No second effect meets the promise of `noted_step`, as of `step`; and where `quick_at` or `call_at` did something, it did the one thing that its item does. What the memo
-- holds, and so whether they do anything, is left open (docs/OPEN_PROMISES.md). Assumes nothing.
use Prim.Native.Nat.{ℕ}
use mathlib.Core.Path.{◌≡◌, sym, ◌∙◌}
use mathlib.Core.List.{List}
use Rattle.step.specs.declared.Did.{Did}
use Rattle.step.specs.Effect.{Effect, goes}
use Rattle.step.specs.inner.Code.{state_of, effect_by, Does}
use Rattle.step.proofs.OneReply.{step-one}
use Rattle.memo.specs.inner.Memo.{AfterStep}
use Rattle.memo.specs.declared.Went.{Went}
use Rattle.memo.specs.inner.Quick.{WentIn, WentAt}

pub noted_one : (memo memo' : List ℕ) {e : Effect} {r q : Did} {vals vals' w w' : List ℕ} → Does e r vals w × AfterStep r memo w → Does e q vals' w' × AfterStep q memo' w'
    → effect_by r vals w ≡ effect_by q vals' w'
noted_one memo memo' a b = step-one a.0 b.0

pub went-one : {profile : ℕ} {s : List ℕ} {at count : ℕ} {vals : List ℕ} {used : ℕ} {w : List ℕ} {x y : Went} {after after' : List ℕ} → WentIn profile s at count vals used w x after
    → WentIn profile s at count vals used w y after' → goes (state_of x.count after used w) ≡ goes (state_of y.count after' used w)
went-one a b = sym a.effect ∙ b.effect

pub quick-one : {s : List ℕ} {at count : ℕ} {vals : List ℕ} {used : ℕ} {w : List ℕ} {x y : Went} {after after' : List ℕ} → WentAt s at count vals used w x after
    → WentAt s at count vals used w y after' → goes (state_of x.count after used w) ≡ goes (state_of y.count after' used w)
quick-one a b = went-one (a 0) (b 0)
