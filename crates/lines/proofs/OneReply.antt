-- No second reply, and no other bytes afterwards, meet the promises of `write` and `answer_sheet`. Assumes nothing.
use Prim.Native.Nat.{ℕ}
use mathlib.Core.Path.{◌≡◌}
use mathlib.Core.List.{List}
use Rattle.answer.specs.declared.Answer.{Answer}
use Rattle.text.specs.Text.{Put}
use Rattle.text.proofs.OneReply.{one-put}
use Rattle.lines.specs.Lines.{lines_of, report}

pub one-write : (w : List ℕ) (a : Answer) {out : List ℕ} {r q : ℕ} {u v : List ℕ} → Put out 0 (lines_of w a) r u → Put out 0 (lines_of w a) q v → (r ≡ q) × (u ≡ v)
one-write w a = one-put

pub one_answer : (profile : ℕ) (s : List ℕ) {out : List ℕ} {r q : ℕ} {u v : List ℕ} → Put out 0 (report profile s) r u → Put out 0 (report profile s) q v → (r ≡ q) × (u ≡ v)
one_answer profile s = one-put
