-- `overload::tables::row_line` meets its contract: a line for each row, whose entries antt computes. Assumes nothing.
use Rattle.std.proofs.Common.{get_or, refl}
use Rattle.conv.specs.Rank.{both}
use Rattle.overload.specs.Overload.{or}
use Rattle.overload.specs.Rows.{form_at, rows, row_at, head_count}
use Rattle.overload.specs.inner.Code as code
use Rattle.overload.specs.inner.Code.{RowLine}
use Rattle.overload.specs.declared.tables.TheConstants.{ROWS, NO_ROW}
use Rattle.overload.proofs.Lines.{read, row_test, row-lines, no-row-line}
use Rattle.overload.proofs.tables.row_line.Goals as goal

pub returns : goal.returns
unfolding both or rows row_at head_count form_at code.joined code.start_of code.any_size code.place_of code.how_many code.twins code.shared code.stop_of row_test
returns c = read RowLine ROWS NO_ROW (row-lines 54 (λ k. get_or ROWS k NO_ROW) tt) (λ k h. no-row-line tt refl refl h) c.args.row _ c.line.ensures
