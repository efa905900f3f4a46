-- `table::allowed` meets its contract: a scalar kind, or an entry by its row. Assumes nothing.
use native.Mathlib.Omega.{arith}
use borrow.Author.Tests.{lt-ltb, le-ltb}
use Rattle.table.specs.Table.{allowedb}
use Rattle.table.proofs.allowed.Goals as goal

pub returns-then-k-lt-SCALARS : goal.returns-then-k-lt-SCALARS
unfolding allowedb
returns-then-k-lt-SCALARS c = rw (lt-ltb c.args.e.kind 7 (omega arith), c.scalar_ok.ensures, c.word-k.ensures)

pub returns : goal.returns
unfolding allowedb
returns c = rw (le-ltb c.args.e.kind 7 (omega arith)) c.made_ok.ensures
