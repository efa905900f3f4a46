-- `choice::is_chosen` meets its contract. The loop's invariant: all passed stand back. Assumes nothing.
use Prim.Native.Nat.{ℕ, ◌-◌}
use mathlib.Core.Path.{◌≡◌, sym, ◌∙◌, subst}
use mathlib.Core.Bool.{true, false}
use mathlib.Core.List.{List, map}
use native.Mathlib.Omega.{arith}
use lib.ListN.{length}
use borrow.Author.Count.{below_more}
use Rattle.overload.specs.Rows.{row_at}
use Rattle.overload.specs.inner.Code.{operand}
use Rattle.overload.proofs.Counts.{count-few}
use Rattle.listing.specs.Listing.{overload_at}
use Rattle.conv.specs.Types.{Ty}
use Rattle.conv.specs.Rank.{both}
use Rattle.overload.specs.Overload.{fits}
use Rattle.choice.specs.inner.Chosen.{left_by, stands_back}
use Rattle.choice.proofs.Choosing.{chosen-all, chosen-not, chosen-away, params-part}
use Rattle.choice.proofs.is_chosen.Goals as goal

pub params-all-requires : goal.params-all-requires
params-all-requires c = c.requires.1

pub slice_bounds-ps-end : goal.slice_bounds-ps-end
slice_bounds-ps-end c = omega (arith, c.requires.0, count-few c.args.row, c.params-all.ensures.four)

pub is_left-requires : goal.is_left-requires
is_left-requires c = let a = c.args in let e = c.requires.0 in let q = params-part a.row a.i c.params-all.result c.params-all.ensures (length a.xs.now - 0) (omega (arith, e)) (omega (arith, e, count-few a.row)) in (q.0, omega (arith, q.1))

pub returns-then-not-is_left : goal.returns-then-not-is_left
returns-then-not-is_left c = let a = c.args in let e = c.requires.0 in let q = params-part a.row a.i c.params-all.result c.params-all.ensures (length a.xs.now - 0) (omega (arith, e)) (omega (arith, e, count-few a.row)) in sym (chosen-away a.row a.running (map operand a.xs.now) (overload_at (row_at a.row) a.i) (subst (λ (ps : List Ty). both (fits ps (map operand a.xs.now)) (left_by a.running ps) ≡ false) q.2 (sym c.is_left.ensures ∙ c.if-not-is_left.true)))

pub loop-j-init : goal.loop-j-init
loop-j-init c = λ k h. absurd (omega arith)

pub stands_back-requires : goal.stands_back-requires
stands_back-requires c = let a = c.args in let e = c.requires.0 in let q = params-part a.row a.i c.params-all.result c.params-all.ensures (length a.xs.now - 0) (omega (arith, e)) (omega (arith, e, count-few a.row)) in (e, c.requires.1, omega (arith, c.count-j-end.ensures.0, c.loop-j-test.true), q.0, omega (arith, q.1), q.2)

pub returns-then-not-stands_back : goal.returns-then-not-stands_back
returns-then-not-stands_back c = let a = c.args in sym (chosen-not a.row a.running (map operand a.xs.now) (overload_at (row_at a.row) a.i) c.loop-j.j (omega (arith, c.count-j-end.ensures.0, c.loop-j-test.true)) (sym c.stands_back.ensures ∙ c.if-not-stands_back.true))

pub loop-j-preserved : goal.loop-j-preserved
loop-j-preserved c = let a = c.args in below_more (λ (k : ℕ). stands_back a.running (map operand a.xs.now) (overload_at (row_at a.row) a.i) (overload_at (row_at a.row) k) ≡ true) _ c.loop-j.invariant (sym c.stands_back.ensures ∙ c.if-not-stands_back.false)

pub returns : goal.returns
returns c = let a = c.args in let e = c.requires.0 in let q = params-part a.row a.i c.params-all.result c.params-all.ensures (length a.xs.now - 0) (omega (arith, e)) (omega (arith, e, count-few a.row)) in sym (chosen-all a.row a.running (map operand a.xs.now) (overload_at (row_at a.row) a.i) (subst (λ (ps : List Ty). both (fits ps (map operand a.xs.now)) (left_by a.running ps) ≡ true) q.2 (sym c.is_left.ensures ∙ c.if-not-is_left.false)) (λ k h. c.loop-j.invariant k (omega (arith, c.count-j-end.ensures.0))))
