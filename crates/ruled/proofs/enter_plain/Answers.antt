-- `ruled::enter_plain` meets its contract: a scalar has its own number, a vector and a matrix are one entry. Assumes nothing.
use Rattle.ruled.proofs.Outcomes.{plain-scalar, plain-vec, plain-mat}
use Rattle.ruled.proofs.enter_plain.Goals as goal

pub returns-then-x-lt-SCALARS : goal.returns-then-x-lt-SCALARS
returns-then-x-lt-SCALARS c = let a = c.args in plain-scalar a.words.now a.n a.x c.if-x-lt-SCALARS.true

pub returns-then-x-lt-PLAINS : goal.returns-then-x-lt-PLAINS
returns-then-x-lt-PLAINS c =
    let a = c.args in
    plain-vec a.words.now a.n a.x _ _ _ c.if-x-lt-SCALARS.false c.if-x-lt-PLAINS.true c.vec_entry.ensures c.enter.ensures

pub returns : goal.returns
returns c =
    let a = c.args in
    plain-mat a.words.now a.n a.x _ _ _ c.if-x-lt-PLAINS.false c.mat_entry.ensures c.enter-2.ensures
