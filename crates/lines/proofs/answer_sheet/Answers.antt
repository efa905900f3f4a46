-- `lines::answer_sheet` meets its contract: what `type_sheet` answers over the seven scalars can be spelled. Assumes nothing.
use mathlib.Core.Path.{◌≡◌, ap}
use mathlib.Core.Bool.{Bool}
use mathlib.Core.List.{List}
use Prim.Native.Nat.{ℕ}
use Rattle.answer.specs.declared.Typed.{Typed}
use Rattle.table.specs.Table.{scalars}
use Rattle.table.specs.Placing.{Outcome, GaveMarked}
use Rattle.sheet.specs.Machine.{sheet_runs}
use Rattle.lines.specs.Lines.{start, outcome, report}
use Rattle.lines.proofs.Valued.{spellable}
use Rattle.lines.proofs.answer_sheet.Goals as goal

-- the answer, whatever its mark
answered : {o : Outcome} {m : Bool} {d : Typed} {v : List ℕ} → GaveMarked o m d v → d.answer ≡ o.answer
answered g = ap (λ (x : Typed). x.answer) g.reply

pub write-requires : goal.write-requires
write-requires c =
    let s = c.args.bytes.now in
    let p = c.args.profile in
    let g : GaveMarked (outcome p s) (sheet_runs p start scalars s) c.type_sheet-typed.result c.type_sheet-typed.new.words = rw c.scalars-words.ensures at c.type_sheet-typed.ensures in
    rw (answered g, g.words) (spellable p s)

pub returns : goal.returns
unfolding report
returns c =
    let s = c.args.bytes.now in
    let p = c.args.profile in
    let g : GaveMarked (outcome p s) (sheet_runs p start scalars s) c.type_sheet-typed.result c.type_sheet-typed.new.words = rw c.scalars-words.ensures at c.type_sheet-typed.ensures in
    record { put = rw (answered g, g.words) at c.write.ensures.put; upper_bound = c.write.ensures.upper_bound }
