-- `names::Names::new` meets its contract: the constant is the table of the names, which antt computes. Assumes nothing.
use mathlib.Core.Path.{refl}
use Rattle.text.specs.Text.{ascii}
use Rattle.names.specs.Names.{names}
use Rattle.names.specs.inner.Table.{ruling_number, rule_number, filled, line, name_table}
use Rattle.names.proofs.Names.new.Goals as goal

pub invariant_of-result : goal.invariant_of-result
unfolding ascii names ruling_number rule_number filled line name_table
invariant_of-result c = record { stand = refl }
