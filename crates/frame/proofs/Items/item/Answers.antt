-- `frame::Items::item` meets its contract: what is read in the part after the header is what stands in the sheet (`Reading`). Assumes nothing.
use mathlib.Core.Path.{◌∙◌}
use Rattle.frame.specs.inner.Items.{sheet_in}
use Rattle.frame.proofs.Parts.{whole-marked}
use Rattle.frame.proofs.Reading.{in-header, in_end, in-empty, in-long, in-some, in-none}
use Rattle.frame.proofs.Items.item.Goals as goal

pub returns-then-at-lt-HEADER : goal.returns-then-at-lt-HEADER
returns-then-at-lt-HEADER c = let a = c.args in c.no_item.ensures ∙ in-header (sheet_in a.self) a.at.0 c.if-at-lt-HEADER.true

pub returns-then-items-first : goal.returns-then-items-first
returns-then-items-first c = let a = c.args in c.no_item-then-items-first.ensures ∙ in_end a.self.version a.self.bytes.now a.at.0 c.if-at-lt-HEADER.false c.if-items-first.true

pub returns-then-len-eq0 : goal.returns-then-len-eq0
returns-then-len-eq0 c = let a = c.args in
    c.no_item-then-len-eq0.ensures ∙ in-empty a.self.version a.self.bytes.now a.at.0 c.if-at-lt-HEADER.false c.if-items-first.false c.wide-len.result c.wide-len.ensures c.if-len-eq0.true

pub returns-then-items-first-2 : goal.returns-then-items-first-2
returns-then-items-first-2 c = let a = c.args in
    c.no_item-then-items-first-2.ensures
    ∙ in-long a.self.version a.self.bytes.now a.at.0 c.if-at-lt-HEADER.false c.if-items-first.false c.wide-len.result c.wide-len.ensures c.if-len-eq0.false c.if-items-first-2.true

pub returns-in-Some : goal.returns-in-Some
returns-in-Some c = let a = c.args in in-some a.self.version a.self.bytes.now a.at.0 c.if-at-lt-HEADER.false c.if-items-first.false c.wide-len.result c.wide-len.ensures c.if-len-eq0.false c.if-items-first-2.false c.has_marks.result (c.has_marks.ensures ∙ whole-marked a.self.version a.self.bytes.now) c.in-Some.item (c.in-Some.ensures)

pub returns-in-None : goal.returns-in-None
returns-in-None c = let a = c.args in in-none a.self.version a.self.bytes.now a.at.0 c.if-at-lt-HEADER.false c.if-items-first.false c.wide-len.result c.wide-len.ensures c.if-len-eq0.false c.if-items-first-2.false c.has_marks.result (c.has_marks.ensures ∙ whole-marked a.self.version a.self.bytes.now) (c.in-None.ensures)
