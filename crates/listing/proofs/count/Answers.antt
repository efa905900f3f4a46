-- `listing::count` meets its contract: the counts of all rows, which antt computes, and none past the last row. Assumes nothing.
use mathlib.Core.Path.{◌≡◌, sym, ◌∙◌, ap}
use native.Mathlib.Omega.{arith}
use lib.ListN.{length, get_or-eq_default}
use Rattle.conv.specs.Rank.{both}
use Rattle.conv.proofs.Finite.{table}
use Rattle.overload.specs.Rows as rows
use Rattle.overload.specs.Rows.{Row, rows, no_row, row_at, overloads_of}
use Rattle.overload.proofs.Lines.{read}
use Rattle.listing.specs.declared.TheConstants.{COUNTS}
use Rattle.listing.proofs.count.Goals as goal

pub returns : goal.returns
unfolding both row_at rows rows.over_second rows.at_sizes rows.over_set rows.of_families
returns c =
    let e = read (λ row r. r ≡ length (overloads_of (row_at row))) COUNTS 0 (table (λ row. length (overloads_of (row_at row))) 54 COUNTS tt)
    (λ row h. ap (λ (r : Row). length (overloads_of r)) (sym (get_or-eq_default rows no_row h))) c.args.row _ c.line.ensures in
    (c.wide.ensures ∙ e, omega (arith, c.wide.ensures))
