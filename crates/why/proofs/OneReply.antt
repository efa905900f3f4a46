-- No second reply, and no other bytes afterwards, meet the promise of a host's call. Assumes nothing.
use Prim.Native.Nat.{ℕ}
use mathlib.Core.Path.{◌≡◌, sym, ◌∙◌}
use mathlib.Core.List.{List}
use Rattle.answer.specs.declared.Answer.{Answer}
use Rattle.spell.specs.Reply.{Spelled}
use Rattle.why.specs.Why.{WhyDone}

pub one-reply : {n : ℕ} {a : Answer} {ps : List (List ℕ)} {out : List ℕ} {r s : Spelled} {u v : List ℕ} → WhyDone n a ps out r u → WhyDone n a ps out s v → (r ≡ s) × (u ≡ v)
one-reply a b = (a.reply ∙ sym b.reply, a.bytes ∙ sym b.bytes)
