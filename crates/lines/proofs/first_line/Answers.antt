-- `lines::first_line` meets its contract, case by case. Assumes nothing.
use native.Mathlib.Omega.{arith}
use Rattle.text.specs.Text.{ascii}
use Rattle.lines.specs.Lines.{first_line}
use Rattle.lines.proofs.first_line.Goals as goal

pub type_line-requires : goal.type_line-requires
type_line-requires c = rw c.in-Value.is at c.requires

pub returns-in-Value : goal.returns-in-Value
unfolding ascii first_line
returns-in-Value c = rw c.in-Value.is (record { put = c.type_line.ensures.put; result_bound = omega (arith, c.type_line.ensures.result_bound) })

pub returns-in-NoValue : goal.returns-in-NoValue
unfolding ascii first_line
returns-in-NoValue c = rw c.in-NoValue.is (record { put = c.put_text.ensures; result_bound = omega (arith, c.put_text.ensures.place) })

pub returns-in-Refused : goal.returns-in-Refused
unfolding ascii first_line
returns-in-Refused c = rw c.in-Refused.is c.refused_line.ensures
