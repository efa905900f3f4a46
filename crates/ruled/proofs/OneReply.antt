-- No second reply, and no other words afterwards, meet the promises: each names both. Assumes nothing.
use Prim.Native.Nat.{ℕ}
use mathlib.Core.Path.{◌≡◌, sym, ◌∙◌}
use mathlib.Core.Bool.{Bool}
use mathlib.Core.List.{List, map}
use Rattle.held.specs.Held.{mark_of}
use Rattle.conv.specs.Types.{abstract_ty}
use Rattle.conv.specs.Rank.{both}
use Rattle.overload.specs.Rows.{row_at}
use Rattle.overload.specs.inner.Code.{operand, code_of, judge_kept}
use Rattle.table.specs.Denote.{type_at}
use Rattle.table.specs.Placing.{Gave}
use Rattle.answer.specs.declared.Answer.{Answer}
use Rattle.table.proofs.OneReply.{gave_one}
use Rattle.ruled.specs.Call.{operand_ty, judged_outcome}

pub code_at_one : (w : List ℕ) (t r s : ℕ) → r ≡ code_of (type_at w t) → s ≡ code_of (type_at w t) → r ≡ s
code_at_one w t r s p q = p ∙ sym q

pub judge-codes-one : (place : ℕ) (w : List ℕ) (n row : ℕ) (running : Bool) (xs : List ℕ) (r s : Answer) (v u : List ℕ) → Gave (judged_outcome place w n (judge_kept running (row_at row) (map operand xs))) r v
    → Gave (judged_outcome place w n (judge_kept running (row_at row) (map operand xs))) s u → (r ≡ s) × (v ≡ u)
judge-codes-one place w n row running xs r s v u = gave_one (judged_outcome place w n (judge_kept running (row_at row) (map operand xs))) r s v u

pub clashes-one : (w : List ℕ) (v : ℕ) {r s : Bool} → r ≡ both (mark_of v) (abstract_ty (operand_ty w v)) → s ≡ both (mark_of v) (abstract_ty (operand_ty w v)) → r ≡ s
clashes-one w v p q = p ∙ sym q
