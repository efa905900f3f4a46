-- `names::Names::rule_of` meets its contract: a name has the rule of the row where it stands. Assumes nothing.
use mathlib.Core.Path.{sym, ◌∙◌, ap}
use Rattle.names.specs.inner.Table.{replied}
use Rattle.names.proofs.Found.{stands-rule, stands-nowhere}
use Rattle.names.proofs.Names.rule_of.Goals as goal

pub returns-in_err-find : goal.returns-in_err-find
unfolding replied
returns-in_err-find c = let a = c.args in c.from_residual.ensures ∙ sym (ap replied (stands-nowhere a.profile a.name.now c.in_err-find.ensures))

pub returns : goal.returns
returns c = let a = c.args in c.rule_at.ensures ∙ ap replied (stands-rule a.profile a.name.now c.in_ok-find.field-0 c.in_ok-find.ensures)
