-- No second reply, and no other words afterwards, meet the promise of `type_template`. Assumes nothing.
use Prim.Native.Nat.{ℕ}
use mathlib.Core.Path.{◌≡◌}
use mathlib.Core.List.{List}
use lib.IntN.{ℤ}
use Rattle.table.specs.Placing.{Gave}
use Rattle.table.proofs.OneReply.{gave_one}
use Rattle.answer.specs.declared.Answer.{Answer}
use Rattle.tplt.specs.Templates.{template_outcome}

pub type-template-one : (w : List ℕ) (n : ℕ) (head : List ℕ) (args : List ℤ) (a b : Answer) (u v : List ℕ)
    → Gave (template_outcome w n head args) a u → Gave (template_outcome w n head args) b v → (a ≡ b) × (u ≡ v)
type-template-one w n head args a b u v = gave_one (template_outcome w n head args) a b u v
