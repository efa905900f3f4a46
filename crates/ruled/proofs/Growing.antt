-- How much room is missing (document 02, K2), of a ruled call: what lacks is what its result lacks. Assumes nothing.
use Prim.Native.Nat.{ℕ}
use mathlib.Core.Path.{refl}
use mathlib.Core.Bool.{Bool}
use mathlib.Core.List.{List}
use Rattle.conv.specs.Types.{Ty}
use Rattle.overload.specs.Overload.{Judged}
use Rattle.overload.specs.Overload.Judged.{gives, none_fits}
use Rattle.overload.specs.Marks.{running_abstract}
use Rattle.overload.specs.Rows.{Ruling, judge_by}
use Rattle.table.specs.Table.{Sound}
use Rattle.table.specs.Lacking.{Longer, Grown}
use Rattle.answer.specs.declared.Reason.TheVariants.{NoOverload, Reference, RunningAbstract}
use Rattle.table.proofs.Growing.{grown-refused, grown-silent, grown-test, grown-entering}
use Rattle.ruled.specs.Call.{judged_outcome, silent_outcome, offends, ruled_outcome}

module _ (w v : List ℕ) (n k : ℕ) (l : Longer w v n k) (s : Sound w n) (place : ℕ) where
  pub grown-judged : (j : Judged) → Grown w n k (judged_outcome place w n j) (judged_outcome place v n j)
  unfolding judged_outcome
  grown-judged (gives R) = grown-entering w v n k l s place R
  grown-judged none_fits = grown-refused w n k NoOverload refl place _

  -- and nothing lacks where there is no value
  pub grown-silently : (j : Judged) → Grown w n k (silent_outcome place w n j) (silent_outcome place v n j)
  unfolding silent_outcome
  grown-silently (gives R) = grown-silent w n k n w _
  grown-silently none_fits = grown-refused w n k NoOverload refl place _

  pub grown-ruled : (r : Ruling) (ts : List Ty) (ms : List Bool) → Grown w n k (ruled_outcome place w n r ts ms) (ruled_outcome place v n r ts ms)
  unfolding ruled_outcome
  grown-ruled r ts ms =
      grown-test w n k (offends r ts) _ _ _ _ (grown-refused w n k Reference refl place _)
      (grown-test w n k (running_abstract ts ms) _ _ _ _ (grown-refused w n k RunningAbstract refl place _) (grown-judged (judge_by r ts ms)))
