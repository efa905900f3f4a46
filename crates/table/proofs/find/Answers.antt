-- `table::find` meets its contract. The loop has found nothing yet. Assumes nothing.
use mathlib.Core.Path.{◌≡◌, sym, ◌∙◌, ap}
use mathlib.Core.Bool.{true, false}
use Rattle.table.specs.Table.{entry_at, sameb}
use Rattle.table.specs.declared.Entry.{Entry}
use Rattle.table.proofs.SoundLaws.{same-words}
use Rattle.table.proofs.TableLaws.{find_none, find-more, find-stop}
use Rattle.table.proofs.find.Goals as goal

pub loop-i-init : goal.loop-i-init
loop-i-init c = find_none _ _

pub returns-then-eq : goal.returns-then-eq
returns-then-eq c =
    let a = c.args in
    let s : sameb (entry_at a.words.now c.loop-i.i) a.e ≡ true = ap (λ (x : Entry). sameb x a.e) (sym c.entry_at.ensures) ∙ sym (same-words c.entry_at.result a.e) ∙ sym c.eq.ensures ∙ c.if-eq.true in
    sym (find-stop a.words.now a.e c.loop-i.i a.n c.loop-i.invariant s c.loop-i-test.true)

pub loop-i-preserved : goal.loop-i-preserved
loop-i-preserved c =
    let a = c.args in
    let s : sameb (entry_at a.words.now c.loop-i.i) a.e ≡ false = ap (λ (x : Entry). sameb x a.e) (sym c.entry_at.ensures) ∙ sym (same-words c.entry_at.result a.e) ∙ sym c.eq.ensures ∙ c.if-eq.false in
    find-more a.words.now a.e c.loop-i.i c.loop-i.invariant s
