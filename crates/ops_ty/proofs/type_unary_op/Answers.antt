-- `ops_ty::type_unary_op` meets its contract: the answer, and the mark of its operand. Assumes nothing.
use mathlib.Core.Path.{◌∙◌, ap}
use mathlib.Core.Bool.{Bool}
use Rattle.answer.specs.Answer.{marked_by}
use Rattle.table.proofs.Giving.{gave-marked}
use Rattle.ops_ty.proofs.Ways.{one-runs}
use Rattle.ops_ty.proofs.type_unary_op.Goals as goal

pub returns : goal.returns
returns c =
    gave-marked c.answer_unary-r.ensures
    (c.marked.ensures ∙ ap (λ (m : Bool). marked_by m c.answer_unary-r.result) (c.running.ensures ∙ one-runs _))
