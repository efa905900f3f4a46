-- `call_ty::unmarked` meets its contract: a refusal, with no mark. Assumes nothing.
use mathlib.Core.Path.{◌∙◌, ap}
use mathlib.Core.Bool.{false}
use Rattle.answer.specs.Answer.{marked_by}
use Rattle.call_ty.proofs.unmarked.Goals as goal

pub returns : goal.returns
returns c = c.marked.ensures ∙ ap (marked_by false) c.refused.ensures.made
