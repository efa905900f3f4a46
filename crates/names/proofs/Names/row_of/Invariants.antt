use Prim.Native.Nat.{ℕ, ◌≤◌, ◌<◌, ◌-◌}
use mathlib.Core.Path.{◌≡◌}
use Rattle.names.specs.Names.{name_at, count}
use Rattle.names.proofs.Halving.{looks}
use Rattle.names.proofs.Names.row_of.Given as goal

abbrev pub invariant-loop-low : goal.invariant-loop-low
invariant-loop-low l =
    (l.high ≤ count) × ((k : ℕ) → k < l.low → name_at k ≡ l.name → ⊥) × ((k : ℕ) → l.high ≤ k → k < count → name_at k ≡ l.name → ⊥)

abbrev pub decreases-loop-low : goal.decreases-loop-low
decreases-loop-low l = looks (l.high - l.low)
