-- `why::ask_call` meets its contract: by the rule of the name, or none. Assumes nothing.
use mathlib.Core.Path.{sym, ◌∙◌}
use Rattle.names.proofs.Rules.{said-rule, said-unknown}
use Rattle.why.proofs.Asking.{call-ruled, call-unknown}
use Rattle.why.proofs.ask_call.Goals as goal

pub returns-in-Some : goal.returns-in-Some
returns-in-Some c = let a = c.args in call-ruled a.profile a.words.now a.n a.name.now a.tplt.now a.args.now _ _ c.builtin-answer.ensures _ _ (said-rule a.profile a.name.now _ (sym c.rule_of.ensures ∙ c.in-Some.is)) _ c.has_ruling.ensures (rw c.then_some.ensures at c.told_by.ensures)

pub returns-in-None : goal.returns-in-None
returns-in-None c = let a = c.args in call-unknown a.profile a.words.now a.n a.name.now a.tplt.now a.args.now _ _ c.builtin-answer.ensures (said-unknown a.profile a.name.now (sym c.rule_of.ensures ∙ c.in-None.is)) c.told_by-in-None.ensures
