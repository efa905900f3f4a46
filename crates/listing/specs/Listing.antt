-- THE OVERLOADS OF A ROW, one by one (document 02, K7): in the order in which `overloads_of` lists them, which is that of the row's families, then of T's number, then of the size.
-- Assumes nothing.
use Rattle.std.specs.Prelude.{ℕ, ◌<◌, ◌≡◌, List, [], map, length, get_or, take}
use Rattle.conv.specs.Types.{bool}
use Rattle.conv.specs.Types.Ty.{scalar}
use Rattle.overload.specs.Overload.{Overload}
use Rattle.overload.specs.Rows.{Row, row_at, overloads_of, operand_count}
use Rattle.overload.specs.inner.Code.{operand}

-- what stands past the end of a list of overloads
abbrev pub no_overload : Overload
no_overload = record { params = []; result = scalar bool }

-- the overload at place j of a row's list, counted from 0
abbrev pub overload_at : Row → ℕ → Overload
overload_at r j = get_or (overloads_of r) j no_overload

-- the parameters of the overload at place j of a row, as operands' numbers, in a list of four; what stands behind them is an operand's number too, and says nothing
pub record Params (row j : ℕ) (codes : List ℕ) : Type 0 where
  pub four : length codes ≡ 4
  pub are : map operand (take (operand_count (row_at row)) codes) ≡ (overload_at (row_at row) j).params
  pub small : (k : ℕ) → k < 4 → get_or codes k 0 < 91
