-- `desk::answer_of` meets its contract: what `type_sheet` answers over the seven scalars. Assumes nothing.
use mathlib.Core.Path.{ap}
use Rattle.lines.specs.Lines.{start, outcome}
use Rattle.sheet.specs.Machine.{sheet_runs}
use Rattle.table.specs.Placing.{GaveMarked}
use Rattle.table.specs.Table.{scalars}
use Rattle.answer.specs.declared.Typed.{Typed}
use Rattle.desk.proofs.answer_of.Goals as goal

pub returns : goal.returns
returns c = let s = c.args.sheet.now in
    let p = c.args.profile in
    let g : GaveMarked (outcome p s) (sheet_runs p start scalars s) c.type_sheet-typed.result c.type_sheet-typed.new.words = rw c.scalars-words.ensures at c.type_sheet-typed.ensures in
    ap (λ (x : Typed). x.answer) g.reply
