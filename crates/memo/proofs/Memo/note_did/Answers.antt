-- `memo::Memo::note_did` meets its contract: the type that an item left is noted, and nothing else is. Assumes nothing.
use native.Mathlib.Omega.{arith}
use Rattle.memo.specs.inner.Memo.{Leaves, NotedStep}
use Rattle.memo.proofs.Asking.{unnoted}
use borrow.Author.Rules.{rules}
use Rattle.memo.proofs.Memo.note_did.Goals as goal

pub overflow_sub-count : goal.overflow_sub-count
unfolding Leaves
overflow_sub-count c = let q = rw c.in-Went.is at c.requires in q.0

pub offset_bounds-stack-count : goal.offset_bounds-stack-count
unfolding Leaves
offset_bounds-stack-count c = let q = rw c.in-Went.is at c.requires in search rules

pub bounds-stack-count : goal.bounds-stack-count
unfolding Leaves
bounds-stack-count c = let q = rw c.in-Went.is at c.requires in omega (arith, q.0, q.1)

pub note-requires : goal.note-requires
unfolding Leaves
note-requires c = let q = rw c.in-Went.is at c.requires in rw c.number.ensures q.2

pub returns-in-Went : goal.returns-in-Went
unfolding NotedStep
returns-in-Went c = rw (c.in-Went.is, ← c.number.ensures) c.note.ensures

pub returns-in_default : goal.returns-in_default
returns-in_default c = let a = c.args in unnoted a.self.now.slots a.stack.now a.key.number a.d c.in_default.not-Went
