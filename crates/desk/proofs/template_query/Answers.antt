-- `desk::template_query` meets its contract: nothing where the template is no type, else the call with it. Assumes nothing.
use Rattle.desk.proofs.Queried.{template-short, template-call}
use Rattle.desk.proofs.template_query.Goals as goal

pub returns-then-before-t : goal.returns-then-before-t
returns-then-before-t c = let a = c.args in let b = a.before in template-short b.count b.stack.now b.used b.words.now b.ready a.profile a.name.now a.t a.k c.if-before-t.true

pub returns : goal.returns
returns c = let a = c.args in let b = a.before in template-call b.count b.stack.now b.used b.words.now b.ready a.profile a.name.now a.t a.k c.if-before-t.false c.call_query.ensures
