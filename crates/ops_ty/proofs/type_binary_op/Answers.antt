-- `ops_ty::type_binary_op` meets its contract: the answer, and the mark that one of its operands gives. Assumes nothing.
use mathlib.Core.Path.{◌∙◌, ap, ap₂}
use mathlib.Core.Bool.{Bool, ◌||◌}
use Rattle.answer.specs.Answer.{marked_by}
use Rattle.table.proofs.Giving.{gave-marked}
use Rattle.ops_ty.proofs.Ways.{two_run}
use Rattle.ops_ty.proofs.type_binary_op.Goals as goal

pub returns : goal.returns
returns c =
    gave-marked c.answer_binary-r.ensures
    (c.marked.ensures ∙ ap (λ (m : Bool). marked_by m c.answer_binary-r.result) (ap₂ (λ (x y : Bool). x || y) c.running.ensures c.running-2.ensures ∙ two_run _ _))
