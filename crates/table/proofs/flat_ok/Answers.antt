-- `table::flat_ok` meets its contract: each return is the row of the kind that its tests tell. Assumes nothing.
use native.Mathlib.Omega.{arith}
use borrow.Author.Tests.{eq-eqb, ne_eqb}
use Rattle.table.specs.Table.{row_ok}
use Rattle.table.proofs.flat_ok.Goals as goal

pub returns-then-k-eq-KIND_VEC : goal.returns-then-k-eq-KIND_VEC
unfolding row_ok
returns-then-k-eq-KIND_VEC c = let k = c.args.e.kind in λ eb. rw (eq-eqb k 7 c.if-k-eq-KIND_VEC.true, c.word-el.ensures, c.is_width.ensures)

pub returns-then-k-eq-KIND_MAT : goal.returns-then-k-eq-KIND_MAT
unfolding row_ok
returns-then-k-eq-KIND_MAT c = let k = c.args.e.kind in λ eb. rw (ne_eqb k 7 c.if-k-eq-KIND_VEC.false, eq-eqb k 8 c.if-k-eq-KIND_MAT.true, c.is_float.ensures, c.is_width-then-k-eq-KIND_MAT-2.ensures, c.is_width-then-k-eq-KIND_MAT.ensures, c.word-el.ensures)

pub returns-then-k-eq-KIND_ARRAY : goal.returns-then-k-eq-KIND_ARRAY
unfolding row_ok
returns-then-k-eq-KIND_ARRAY c = let k = c.args.e.kind in λ eb. rw (ne_eqb k 7 c.if-k-eq-KIND_VEC.false, ne_eqb k 8 c.if-k-eq-KIND_MAT.false, eq-eqb k 9 c.if-k-eq-KIND_ARRAY.true, c.is_sized.ensures)

pub returns-then-k-eq-KIND_RUNTIME : goal.returns-then-k-eq-KIND_RUNTIME
unfolding row_ok
returns-then-k-eq-KIND_RUNTIME c = let k = c.args.e.kind in λ eb. rw (ne_eqb k 7 c.if-k-eq-KIND_VEC.false, ne_eqb k 8 c.if-k-eq-KIND_MAT.false, ne_eqb k 9 c.if-k-eq-KIND_ARRAY.false, eq-eqb k 10 c.if-k-eq-KIND_RUNTIME.true, c.is_sized-then-k-eq-KIND_RUNTIME.ensures, c.words_unused.ensures)

pub returns-then-k-eq-KIND_ATOMIC : goal.returns-then-k-eq-KIND_ATOMIC
unfolding row_ok
returns-then-k-eq-KIND_ATOMIC c = let k = c.args.e.kind in λ eb. rw (ne_eqb k 7 c.if-k-eq-KIND_VEC.false, ne_eqb k 8 c.if-k-eq-KIND_MAT.false, ne_eqb k 9 c.if-k-eq-KIND_ARRAY.false, ne_eqb k 10 c.if-k-eq-KIND_RUNTIME.false, eq-eqb k 11 c.if-k-eq-KIND_ATOMIC.true, c.words_unused-then-k-eq-KIND_ATOMIC.ensures, c.word-el.ensures)

pub returns : goal.returns
unfolding row_ok
returns c =
    let k = c.args.e.kind in
    let l = c.requires in
    λ eb. rw (ne_eqb k 7 c.if-k-eq-KIND_VEC.false, ne_eqb k 8 c.if-k-eq-KIND_MAT.false, ne_eqb k 9 c.if-k-eq-KIND_ARRAY.false, ne_eqb k 10 c.if-k-eq-KIND_RUNTIME.false, ne_eqb k 11 c.if-k-eq-KIND_ATOMIC.false, ne_eqb k 12 (omega arith), ne_eqb k 13 (omega arith), ne_eqb k 14 (omega arith), ne_eqb k 15 (omega arith), ne_eqb k 16 (omega arith))
