-- `ruled::clashes` meets its contract: a const operand never clashes, a running one where its type is abstract. Assumes nothing.
use Prim.Native.Nat.{ℕ}
use mathlib.Core.Path.{sym, ◌∙◌, ap}
use mathlib.Core.Bool.{Bool}
use Rattle.conv.specs.Types.{abstract_ty}
use Rattle.conv.specs.Rank.{both}
use Rattle.table.specs.Denote.{type_at}
use Rattle.ruled.specs.Call.{operand_ty}
use Rattle.ruled.proofs.clashes.Goals as goal

pub returns-then-not-running : goal.returns-then-not-running
unfolding both
returns-then-not-running c =
    let a = c.args in
    ap (λ (b : Bool). both b (abstract_ty (operand_ty a.words.now a.v))) (sym (sym c.running.ensures ∙ c.if-not-running.true))

pub returns : goal.returns
unfolding both
returns c =
    let a = c.args in
    c.abstract_at.ensures
    ∙ ap (λ (t : ℕ). abstract_ty (type_at a.words.now t)) c.number.ensures
    ∙ ap (λ (b : Bool). both b (abstract_ty (operand_ty a.words.now a.v))) (sym (sym c.running.ensures ∙ c.if-not-running.false))
