-- `ruled::enter_result` meets its contract: over a scalar one entry, over a vector the vector and its container. Assumes nothing.
use Rattle.ruled.specs.inner.Result.{vec_entry}
use Rattle.ruled.proofs.Outcomes.{result-scalar, result-vec}
use Rattle.ruled.proofs.enter_result.Goals as goal

pub returns-then-x-lt-SCALARS : goal.returns-then-x-lt-SCALARS
returns-then-x-lt-SCALARS c = let a = c.args in result-scalar a.words.now a.n a.x (vec_entry 0) _ _ a.kind c.if-x-lt-SCALARS.true c.enter.ensures

pub returns : goal.returns
returns c =
    let a = c.args in
    result-vec a.words.now a.n a.x _ _ _ a.kind c.if-x-lt-SCALARS.false c.vec_entry.ensures c.enter_two.ensures
