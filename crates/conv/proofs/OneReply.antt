-- For each public function: no second reply meets its promise, which is an equation. Assumes nothing.
use Prim.Native.Nat.{ℕ}
use mathlib.Core.Path.{◌≡◌, sym, ◌∙◌}
use Rattle.std.specs.Prelude.{Option}
use Rattle.conv.specs.Rank.{rank_of, plain_rank, common_of, found}

module _ (a b : ℕ) (r s : Option ℕ) where
  pub rank-one : r ≡ found (rank_of a b) → s ≡ found (rank_of a b) → r ≡ s
  rank-one p q = p ∙ sym q

  pub conversion-rank-one : r ≡ found (plain_rank a b) → s ≡ found (plain_rank a b) → r ≡ s
  conversion-rank-one p q = p ∙ sym q

  pub convert-ty-one : r ≡ found (common_of a b) → s ≡ found (common_of a b) → r ≡ s
  convert-ty-one p q = p ∙ sym q
