-- `swartabelk::swartabelk_sheet` meets its contract: the answer of `type_sheet` fits and is told in numbers. Assumes nothing.
use Rattle.sheet.specs.Machine.{type_sheet, sheet_runs}
use Rattle.swartabelk.proofs.Sheets.{sheet-fits}
use Rattle.swartabelk.proofs.Fitting.{replied}
use native.Mathlib.Omega.{arith}
use Rattle.swartabelk.proofs.swartabelk_sheet.Goals as goal

pub reply_of-requires : goal.reply_of-requires
reply_of-requires c = sheet-fits _ _ c.word-n.result _ (omega (arith, c.word-n.ensures, c.ranges.used)) _ _ c.type_sheet-typed.ensures

pub returns : goal.returns
returns c = let a = c.args in
    replied (λ i. type_sheet a.profile a.words.now (c.word-n.ensures i) a.sheet.now)
    (λ i. sheet_runs a.profile a.words.now (c.word-n.ensures i) a.sheet.now) c.type_sheet-typed.ensures c.reply_of.ensures
