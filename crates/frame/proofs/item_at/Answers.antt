-- `frame::item_at` meets its contract: of the header no item looks at more than the version, so what is read with it in the part after the header is what stands in the sheet. Assumes nothing.
use mathlib.Core.Path.{◌∙◌}
use native.Mathlib.Omega.{arith}
use Rattle.frame.proofs.Parts.{rest-alike, item-alike}
use Rattle.frame.proofs.Reading.{in-header, past_end}
use Rattle.frame.proofs.item_at.Goals as goal

pub returns-then-at-lt-HEADER : goal.returns-then-at-lt-HEADER
returns-then-at-lt-HEADER c = let a = c.args in c.no_item.ensures ∙ in-header a.sheet.now a.at.0 c.if-at-lt-HEADER.true

pub returns-then-sheet-lt-HEADER : goal.returns-then-sheet-lt-HEADER
returns-then-sheet-lt-HEADER c = let a = c.args in c.no_item-then-sheet-lt-HEADER.ensures ∙ past_end a.sheet.now a.at.0 c.if-at-lt-HEADER.false (omega (arith, c.if-sheet-lt-HEADER.true, c.if-at-lt-HEADER.false))

pub returns : goal.returns
returns c = let a = c.args in c.item.ensures ∙ item-alike (rest-alike a.sheet.now c.if-sheet-lt-HEADER.false) a.at.0
