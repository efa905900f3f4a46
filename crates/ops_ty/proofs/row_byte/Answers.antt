-- `ops_ty::row_byte` meets its contract: the 18 rows are those of the definition, which antt computes. Assumes nothing.
use borrow.Author.Rules.{rules}
use Rattle.conv.specs.Rank.{both}
use Rattle.conv.proofs.Finite.{table}
use Rattle.ops_ty.specs.Ops.{binary_row}
use Rattle.ops_ty.specs.declared.TheConstants.{BINARY_ROW}
use Rattle.ops_ty.proofs.row_byte.Goals as goal

pub returns : goal.returns
unfolding both binary_row
returns c = table (λ op. (binary_row op).number) 18 BINARY_ROW tt c.args.op (search rules)
