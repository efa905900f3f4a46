-- `table::made_ok` meets its contract: an elem that does not fall, or the row's rule. Assumes nothing.
use native.Mathlib.Omega.{arith}
use borrow.Author.Tests.{lt-ltb, le-ltb}
use Rattle.table.specs.Table.{base_of, made_ok}
use Rattle.table.proofs.made_ok.Goals as goal

pub returns-then-i-el : goal.returns-then-i-el
unfolding made_ok
returns-then-i-el g c = let a = c.args in rw (le-ltb a.e.elem a.i (omega arith))

pub returns-then-e-lt-KIND_PTR : goal.returns-then-e-lt-KIND_PTR
unfolding made_ok
returns-then-e-lt-KIND_PTR g c = let a = c.args in rw (lt-ltb a.e.elem a.i (omega arith), c.flat_ok.ensures (base_of a.words.now a.e.elem), c.entry_at-f.ensures, c.word-el.ensures)

pub returns : goal.returns
unfolding made_ok
returns g c = let a = c.args in rw (lt-ltb a.e.elem a.i (omega arith), c.deep_ok.ensures, c.requires.base c.word-el.result c.base.result (omega arith) c.base.ensures, c.entry_at-f.ensures, c.word-el.ensures)
