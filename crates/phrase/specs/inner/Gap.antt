-- What stands before a text that is set apart from those before it. Assumes nothing.
use Rattle.std.specs.Prelude.{ℕ, cond, List, [], eqb}

-- the gap before the text at a place, which the first has not
unfoldable pub gap_at : ℕ → List ℕ → List ℕ
gap_at i gap = cond (eqb i 0) [] gap
