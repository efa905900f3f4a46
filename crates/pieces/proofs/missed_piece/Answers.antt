-- `pieces::missed_piece` meets its contract. Assumes nothing.
use Prim.Native.Nat.{◌-◌, ◌<◌}
use mathlib.Core.Path.{sym, ap, subst}
use mathlib.Core.List.{List, map}
use native.Mathlib.Omega.{arith}
use lib.ListN.{length}
use Rattle.conv.specs.Types.{Ty}
use Rattle.text.proofs.Puts.{put_as}
use Rattle.overload.specs.inner.Code.{operand}
use Rattle.overload.proofs.Counts.{count-few}
use Rattle.weigh.specs.Weigh.{first_miss}
use Rattle.choice.proofs.Choosing.{params-part}
use Rattle.reasons.specs.Reasons.{miss_line}
use Rattle.reasons.specs.inner.Told.{types_of}
use Rattle.pieces.proofs.missed_piece.Goals as goal

pub slice_bounds-miss_line-end : goal.slice_bounds-miss_line-end
slice_bounds-miss_line-end c = omega (arith, c.requires.3, count-few c.args.row, c.params-all.ensures.four)

pub miss_line-requires : goal.miss_line-requires
miss_line-requires c = let a = c.args in let e = c.requires.3 in let q = params-part a.row a.j c.params-all.result c.params-all.ensures (length a.xs.now - 0) (omega (arith, e)) (omega (arith, e, count-few a.row)) in (c.requires.0, c.requires.1, c.requires.2, q.0, omega (arith, q.1), omega (arith, q.1, e, count-few a.row), subst (λ (ps : List Ty). first_miss ps (map operand a.xs.now) < length a.xs.now) (sym q.2) c.requires.5, c.requires.6)

pub returns : goal.returns
returns c = let a = c.args in let e = c.requires.3 in let q = params-part a.row a.j c.params-all.result c.params-all.ensures (length a.xs.now - 0) (omega (arith, e)) (omega (arith, e, count-few a.row)) in record { put = put_as (ap (λ (ps : List Ty). miss_line ps (types_of a.words.now a.args.now)) q.2) c.miss_line.ensures.put; upper_bound = c.miss_line.ensures.upper_bound }
