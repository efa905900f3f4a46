-- `pieces::chosen_piece` meets its contract. Assumes nothing.
use Prim.Native.Nat.{ℕ, ◌-◌}
use mathlib.Core.Path.{sym, ◌∙◌, ap}
use mathlib.Core.List.{List, map}
use native.Mathlib.Omega.{arith}
use lib.ListN.{length}
use Rattle.conv.specs.Types.{Ty}
use Rattle.text.proofs.Puts.{put_as}
use Rattle.overload.specs.Rows.{row_at}
use Rattle.overload.specs.inner.Code.{operand}
use Rattle.overload.proofs.Counts.{count-few}
use Rattle.listing.specs.Listing.{overload_at}
use Rattle.choice.proofs.Choosing.{params-part}
use Rattle.reasons.specs.Reasons.{chosen_line}
use Rattle.weigh.proofs.Weighing.{place-at, placed-at}
use Rattle.pieces.proofs.chosen_piece.Goals as goal

pub unwrap-i-requires : goal.unwrap-i-requires
unwrap-i-requires c = rw (c.chosen.ensures ∙ place-at _ _ c.requires.1)

pub slice_bounds-chosen_line-end : goal.slice_bounds-chosen_line-end
slice_bounds-chosen_line-end c = omega (arith, c.requires.0, count-few c.args.row, c.params-all.ensures.four)

pub chosen_line-requires : goal.chosen_line-requires
chosen_line-requires c = let a = c.args in let e = c.requires.0 in let q = params-part a.row c.unwrap-i.result c.params-all.result c.params-all.ensures (length a.xs.now - 0) (omega (arith, e)) (omega (arith, e, count-few a.row)) in (q.0, omega (arith, q.1), omega (arith, q.1, e, count-few a.row), c.requires.2)

pub returns : goal.returns
returns c = let a = c.args in let e = c.requires.0 in let q = params-part a.row c.unwrap-i.result c.params-all.result c.params-all.ensures (length a.xs.now - 0) (omega (arith, e)) (omega (arith, e, count-few a.row)) in record { put = put_as (ap (λ (ps : List Ty). chosen_line ps (map operand a.xs.now)) (q.2 ∙ ap (λ (k : ℕ). (overload_at (row_at a.row) k).params) (sym (placed-at _ _ c.chosen.result c.chosen.ensures c.unwrap-i.result c.unwrap-i.ensures).1))) c.chosen_line.ensures.put; upper_bound = c.chosen_line.ensures.upper_bound }
