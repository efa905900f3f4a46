-- `pieces::lost_piece` meets its contract. Assumes nothing.
use Prim.Native.Nat.{◌-◌}
use mathlib.Core.Path.{◌≡◌, sym, ◌∙◌, ap}
use mathlib.Core.List.{List}
use native.Mathlib.Omega.{arith}
use lib.ListN.{length, take}
use borrow.Author.Tests.{ltb-true, ltb-false, leb-true, leb-false}
use Rattle.conv.specs.Types.{Ty}
use Rattle.text.proofs.Puts.{put-nothing, put_as}
use Rattle.overload.specs.Rows.{row_at}
use Rattle.overload.proofs.Counts.{count-few}
use Rattle.call_ty.specs.Calls.{marks_of}
use Rattle.listing.specs.Listing.{overload_at}
use Rattle.choice.proofs.Choosing.{params-part}
use Rattle.reasons.specs.Reasons.{dropped_line}
use Rattle.pieces.proofs.Chosen.{lost-miss, lost-const, lost-concrete, lost-is}
use Rattle.pieces.proofs.lost_piece.Goals as goal
use Rattle.pieces.proofs.lost_piece.Goals.{then-not-running-via-then-not-running, then-not-running-via-else-not-running+then-not-all_convert, then-not-running-via-else-not-running+else-not-all_convert+then-not-has_abstract}

pub slice_bounds-ps-end : goal.slice_bounds-ps-end
slice_bounds-ps-end c = omega (arith, c.requires.0, count-few c.args.row, c.params-all.ensures.four)

pub all_convert-requires : goal.all_convert-requires
all_convert-requires c = let a = c.args in let e = c.requires.0 in let q = params-part a.row a.j c.params-all.result c.params-all.ensures (length a.xs.now - 0) (omega (arith, e)) (omega (arith, e, count-few a.row)) in (q.0, omega (arith, q.1))

pub has_abstract-requires : goal.has_abstract-requires
has_abstract-requires c = let a = c.args in let e = c.requires.0 in let q = params-part a.row a.j c.params-all.result c.params-all.ensures (length a.xs.now - 0) (omega (arith, e)) (omega (arith, e, count-few a.row)) in q.0

pub returns-then-not-running-clause-put : goal.returns-then-not-running-clause-put
returns-then-not-running-clause-put c =
    let a = c.args in
    let e = c.requires.0 in
    let q = params-part a.row a.j c.params-all.result c.params-all.ensures (length a.xs.now - 0) (omega (arith, e)) (omega (arith, e, count-few a.row)) in
    let ps = take (length a.xs.now - 0) c.params-all.result in
    let o = (overload_at (row_at a.row) a.j).params in
    let line = dropped_line o (marks_of a.args.now) in
    let l : length a.xs.now ≡ length ps = omega (arith, q.1) in
    elim c.then-not-running.branch [
      | then-not-running-via-then-not-running w ↦ put_as (sym (lost-const ps a.xs.now o q.2 l a.running line w.if-not-running.true)) (put-nothing _ _)
      | then-not-running-via-else-not-running+then-not-all_convert w ↦ put_as (sym (lost-miss ps a.xs.now o q.2 l a.running line (leb-false _ _ (sym w.all_convert.ensures ∙ w.if-not-all_convert.true)))) (put-nothing _ _)
      | then-not-running-via-else-not-running+else-not-all_convert+then-not-has_abstract w ↦ put_as (sym (lost-concrete ps a.xs.now o q.2 l a.running line (omega (arith, q.1, ltb-false _ _ (sym w.has_abstract.ensures ∙ w.if-not-has_abstract.true))))) (put-nothing _ _)
    ]

pub dropped_line-requires : goal.dropped_line-requires
dropped_line-requires c = let a = c.args in let e = c.requires.0 in let q = params-part a.row a.j c.params-all.result c.params-all.ensures (length a.xs.now - 0) (omega (arith, e)) (omega (arith, e, count-few a.row)) in (q.0, omega (arith, q.1, e, count-few a.row), c.requires.1, c.requires.3)

pub returns : goal.returns
returns c = let a = c.args in let e = c.requires.0 in let q = params-part a.row a.j c.params-all.result c.params-all.ensures (length a.xs.now - 0) (omega (arith, e)) (omega (arith, e, count-few a.row)) in record { put = put_as (ap (λ (ps : List Ty). dropped_line ps (marks_of a.args.now)) q.2 ∙ sym (lost-is (take (length a.xs.now - 0) c.params-all.result) a.xs.now (overload_at (row_at a.row) a.j).params q.2 (omega (arith, q.1)) a.running (dropped_line (overload_at (row_at a.row) a.j).params (marks_of a.args.now)) (leb-true _ _ (sym c.all_convert.ensures ∙ c.if-not-all_convert.false)) c.if-not-running.false (omega (arith, q.1, ltb-true _ _ (sym c.has_abstract.ensures ∙ c.if-not-has_abstract.false))))) c.dropped_line.ensures.put; upper_bound = c.dropped_line.ensures.upper_bound }
