use Rattle.conv.specs.Rank.{found}
use Rattle.conv.proofs.Ranks.{rank-from, rank-to}
use mathlib.Core.Path.{sym, ap}
use Rattle.conv.proofs.rank.Goals as goal

pub returns-then-from-ge-SCALARS : goal.returns-then-from-ge-SCALARS
returns-then-from-ge-SCALARS c = ap found (sym (rank-from _ _ c.if-from-ge-SCALARS.true))

pub returns-then-to-ge-SCALARS : goal.returns-then-to-ge-SCALARS
returns-then-to-ge-SCALARS c = ap found (sym (rank-to _ _ c.if-to-ge-SCALARS.true))
