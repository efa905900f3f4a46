-- `memory::array_length` meets its contract: that of its operand's type. Assumes nothing.
use Rattle.ruled.proofs.Outcomes.{gave-as}
use Rattle.ruled.specs.Call.{judged_outcome}
use Rattle.overload.specs.Rows.{judge_length}
use Rattle.table.specs.Denote.{type_at}
use mathlib.Core.Path.{ap}
use Rattle.memory.proofs.array_length.Goals as goal

pub returns : goal.returns
returns c = let a = c.args in
    gave-as (ap (λ (t : _). judged_outcome a.place.0 a.words.now a.n (judge_length (type_at a.words.now t))) c.number.ensures) c.length_at.ensures
