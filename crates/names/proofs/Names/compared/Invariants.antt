use Prim.Native.Nat.{ℕ, ◌<◌}
use mathlib.Core.Path.{◌≡◌}
use lib.ListN.{get_or}
use Rattle.names.specs.Names.{name_at}
use Rattle.names.specs.inner.Table.{blank}
use Rattle.names.proofs.Names.compared.Given as goal

abbrev pub invariant-loop-i : goal.invariant-loop-i
invariant-loop-i l = (k : ℕ) → k < l.i → get_or (name_at l.row) k blank ≡ get_or l.name k blank
