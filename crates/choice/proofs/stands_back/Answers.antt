-- `choice::stands_back` meets its contract. Assumes nothing.
use Prim.Native.Nat.{◌-◌}
use mathlib.Core.Path.{◌≡◌, sym, ◌∙◌, ap, subst}
use mathlib.Core.Bool.{true, false}
use mathlib.Core.List.{List, map}
use lib.ListN.{length, take}
use Rattle.conv.specs.Types.{Ty}
use Rattle.conv.specs.Rank.{both}
use Rattle.overload.specs.Overload.{fits, no_more, less}
use Rattle.overload.specs.Rows.{row_at}
use Rattle.overload.specs.inner.Code.{operand}
use Rattle.listing.specs.Listing.{overload_at}
use Rattle.choice.specs.inner.Chosen.{left_by}
use native.Mathlib.Omega.{arith}
use Rattle.overload.proofs.Counts.{count-few}
use Rattle.choice.proofs.Choosing.{back-same, back-away, back-beaten, other_place, params-part}
use Rattle.choice.proofs.stands_back.Goals as goal

pub returns-then-i-j : goal.returns-then-i-j
returns-then-i-j c = let a = c.args in sym (back-same a.running (map operand a.xs.now) (overload_at (row_at a.row) a.i) (overload_at (row_at a.row) a.j) (ap (overload_at (row_at a.row)) (sym c.if-i-j.true)))

pub slice_bounds-qs-end : goal.slice_bounds-qs-end
slice_bounds-qs-end c = omega (arith, c.requires.0, count-few c.args.row, c.params-all.ensures.four)

pub is_left-requires : goal.is_left-requires
is_left-requires c = let a = c.args in let e = c.requires.0 in let q = params-part a.row a.j c.params-all.result c.params-all.ensures (length a.xs.now - 0) (omega (arith, e)) (omega (arith, e, count-few a.row)) in (q.0, omega (arith, q.1))

pub returns-then-not-is_left : goal.returns-then-not-is_left
returns-then-not-is_left c = let a = c.args in let e = c.requires.0 in let q = params-part a.row a.j c.params-all.result c.params-all.ensures (length a.xs.now - 0) (omega (arith, e)) (omega (arith, e, count-few a.row)) in sym (back-away a.running (map operand a.xs.now) (overload_at (row_at a.row) a.i) (overload_at (row_at a.row) a.j) (subst (λ (ps : List Ty). both (fits ps (map operand a.xs.now)) (left_by a.running ps) ≡ false) q.2 (sym c.is_left.ensures ∙ c.if-not-is_left.true)))

pub beats-requires : goal.beats-requires
beats-requires c = let a = c.args in let e = c.requires.0 in let q = params-part a.row a.j c.params-all.result c.params-all.ensures (length a.xs.now - 0) (omega (arith, e)) (omega (arith, e, count-few a.row)) in (c.requires.3, q.0, c.requires.4, omega (arith, q.1))

pub returns : goal.returns
returns c = let a = c.args in let e = c.requires.0 in let q = params-part a.row a.j c.params-all.result c.params-all.ensures (length a.xs.now - 0) (omega (arith, e)) (omega (arith, e, count-few a.row)) in c.beats.ensures ∙ ap (λ (ps : List Ty). both (no_more (map operand a.xs.now) ps (map operand (take (length a.xs.now - 0) c.params-all.result))) (less (map operand a.xs.now) ps (map operand (take (length a.xs.now - 0) c.params-all.result)))) c.requires.5 ∙ ap (λ (qs : List Ty). both (no_more (map operand a.xs.now) (overload_at (row_at a.row) a.i).params qs) (less (map operand a.xs.now) (overload_at (row_at a.row) a.i).params qs)) q.2 ∙ sym (back-beaten a.running (map operand a.xs.now) (overload_at (row_at a.row) a.i) (overload_at (row_at a.row) a.j) (subst (λ (ps : List Ty). both (fits ps (map operand a.xs.now)) (left_by a.running ps) ≡ true) q.2 (sym c.is_left.ensures ∙ c.if-not-is_left.false)) (other_place a.row a.i a.j c.requires.1 c.requires.2 c.if-i-j.false))
