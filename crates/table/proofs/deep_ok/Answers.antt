-- `table::deep_ok` meets its contract: each return is the row of the kind that its tests tell. Assumes nothing.
use native.Mathlib.Omega.{arith}
use borrow.Author.Tests.{eq-eqb, ne_eqb}
use Rattle.table.specs.Table.{row_ok}
use Rattle.table.proofs.deep_ok.Goals as goal

pub returns-then-k-eq-KIND_PTR : goal.returns-then-k-eq-KIND_PTR
unfolding row_ok
returns-then-k-eq-KIND_PTR c =
    let k = c.args.e.kind in
    let l = c.requires in
    rw (ne_eqb k 7 (omega arith), ne_eqb k 8 (omega arith), ne_eqb k 9 (omega arith), ne_eqb k 10 (omega arith), ne_eqb k 11 (omega arith), eq-eqb k 12 c.if-k-eq-KIND_PTR.true, c.is_abstract.ensures, c.is_stored.ensures)

pub returns-then-k-eq-KIND_REF : goal.returns-then-k-eq-KIND_REF
unfolding row_ok
returns-then-k-eq-KIND_REF c =
    let k = c.args.e.kind in
    let l = c.requires in
    rw (ne_eqb k 7 (omega arith), ne_eqb k 8 (omega arith), ne_eqb k 9 (omega arith), ne_eqb k 10 (omega arith), ne_eqb k 11 (omega arith), ne_eqb k 12 c.if-k-eq-KIND_PTR.false, eq-eqb k 13 c.if-k-eq-KIND_REF.true, c.is_abstract-then-k-eq-KIND_REF.ensures, c.is_stored-then-k-eq-KIND_REF.ensures)

pub returns-then-k : goal.returns-then-k
unfolding row_ok
returns-then-k c =
    let k = c.args.e.kind in
    let l = c.requires in
    rw (ne_eqb k 7 (omega arith), ne_eqb k 8 (omega arith), ne_eqb k 9 (omega arith), ne_eqb k 10 (omega arith), ne_eqb k 11 (omega arith), ne_eqb k 12 c.if-k-eq-KIND_PTR.false, ne_eqb k 13 c.if-k-eq-KIND_REF.false, c.if-k.true, c.is_float.ensures, c.words_unused.ensures, c.word-el.ensures)

pub returns-then-k-eq-KIND_EXCHANGE : goal.returns-then-k-eq-KIND_EXCHANGE
unfolding row_ok
returns-then-k-eq-KIND_EXCHANGE c =
    let k = c.args.e.kind in
    let l = c.requires in
    rw (ne_eqb k 7 (omega arith), ne_eqb k 8 (omega arith), ne_eqb k 9 (omega arith), ne_eqb k 10 (omega arith), ne_eqb k 11 (omega arith), ne_eqb k 12 c.if-k-eq-KIND_PTR.false, ne_eqb k 13 c.if-k-eq-KIND_REF.false, c.if-k.false, eq-eqb k 16 c.if-k-eq-KIND_EXCHANGE.true, c.words_unused-then-k-eq-KIND_EXCHANGE.ensures, c.word-el.ensures)

pub returns : goal.returns
unfolding row_ok
returns c =
    let k = c.args.e.kind in
    let l = c.requires in
    rw (ne_eqb k 7 (omega arith), ne_eqb k 8 (omega arith), ne_eqb k 9 (omega arith), ne_eqb k 10 (omega arith), ne_eqb k 11 (omega arith), ne_eqb k 12 c.if-k-eq-KIND_PTR.false, ne_eqb k 13 c.if-k-eq-KIND_REF.false, c.if-k.false, ne_eqb k 16 c.if-k-eq-KIND_EXCHANGE.false)
