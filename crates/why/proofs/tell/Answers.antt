-- `why::tell` meets its contract: the text, or the refusal that is handed on. Assumes nothing.
use Rattle.std.proofs.lemmas.Result.{err_from_is_err_and}
use Rattle.why.specs.inner.Asks.{Short}
use Rattle.why.proofs.Texts.{tell-put, tell-refused}
use Rattle.why.proofs.tell.Goals as goal

pub returns-clause-telling : goal.returns-clause-telling
returns-clause-telling c = let a = c.args in tell-put a.words.now a.n a.args.now a.asked a.out.now c.in_ok-asked.was c.put_fitting.ensures.written

pub returns-in_err-asked-clause-telling : goal.returns-in_err-asked-clause-telling
returns-in_err-asked-clause-telling c = let a = c.args in let p = err_from_is_err_and c.from_residual.result c.from_residual.ensures.1 in rw (p.1, p.2) (tell-refused a.words.now a.n a.args.now a.asked a.out.now _ c.in_err-asked.was)

pub returns-in_err-asked-clause-short : goal.returns-in_err-asked-clause-short
unfolding Short
returns-in_err-asked-clause-short c = let p = err_from_is_err_and c.from_residual.result c.from_residual.ensures.1 in rw p.1 tt
