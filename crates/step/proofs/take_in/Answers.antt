-- `step::take_in` meets its contract: 5, 11, then the entry. Assumes nothing.
use mathlib.Core.Path.{sym, ◌∙◌}
use Rattle.step.proofs.Items.{take-pushes, take-does}
use Rattle.step.proofs.Effects.{refusing, take-wrong, take-full}
use Rattle.answer.specs.declared.Reason.TheVariants.{Template, Stack}
use Rattle.step.proofs.take_in.Goals as goal

pub returns-then-not-allowed : goal.returns-then-not-allowed
returns-then-not-allowed c = let a = c.args in
    refusing a.at a.count a.stack.now a.used a.table.now Template c.stopped.ensures (take-wrong a.at a.count a.stack.now a.used a.table.now c.requires a.e a.running (sym c.allowed-allowed.ensures ∙ c.if-not-allowed.true))

pub returns-then-count-ge-VALUES : goal.returns-then-count-ge-VALUES
returns-then-count-ge-VALUES c = let a = c.args in
    refusing a.at a.count a.stack.now a.used a.table.now Stack c.stopped-then-count-ge-VALUES.ensures (take-full a.at a.count a.stack.now a.used a.table.now c.requires a.e a.running (sym c.allowed-allowed.ensures ∙ c.if-not-allowed.false) c.if-count-ge-VALUES.true)

pub settle-requires : goal.settle-requires
settle-requires c = let a = c.args in
    (c.requires.size, c.requires.fits, take-pushes a.at a.count a.stack.now a.used a.table.now c.requires a.e (sym c.allowed-allowed.ensures ∙ c.if-not-allowed.false) c.if-count-ge-VALUES.false c.enter-r.result _ c.enter-r.ensures c.answer_of.ensures)

pub returns : goal.returns
returns c = let a = c.args in
    take-does a.at a.count a.stack.now a.used a.table.now c.requires a.e (sym c.allowed-allowed.ensures ∙ c.if-not-allowed.false) c.if-count-ge-VALUES.false c.enter-r.result _ c.enter-r.ensures c.answer_of.ensures a.running c.settle.ensures
