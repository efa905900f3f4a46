-- `table::base_of` meets its contract. The loop keeps the innermost scalar, and its place falls. Assumes nothing.
use mathlib.Core.Path.{◌≡◌, refl, sym, ◌∙◌, ap}
use native.Mathlib.Omega.{arith}
use Rattle.table.specs.Table.{base_of}
use Rattle.table.specs.declared.Entry.{Entry}
use Rattle.table.proofs.TableLaws.{elem_of, base-scalar, base-stop, base_step}
use Rattle.table.proofs.base_of.Goals as goal

pub loop-at-init : goal.loop-at-init
loop-at-init c = (omega arith, refl)

pub returns-then-at-next : goal.returns-then-at-next
returns-then-at-next c =
    let a = c.args in
    let m : c.word-next.result ≡ elem_of a.words.now c.loop-at.at = c.word-next.ensures ∙ ap (λ (e : Entry). e.elem) c.entry_at-e.ensures in
    sym (base-stop a.words.now c.loop-at.at (omega arith) (omega arith)) ∙ c.loop-at.invariant.1

pub loop-at-preserved : goal.loop-at-preserved
loop-at-preserved c =
    let a = c.args in
    let m : c.word-next.result ≡ elem_of a.words.now c.loop-at.at = c.word-next.ensures ∙ ap (λ (e : Entry). e.elem) c.entry_at-e.ensures in
    (omega arith, ap (base_of a.words.now) m ∙ sym (base_step a.words.now c.loop-at.at (omega arith) (omega arith)) ∙ c.loop-at.invariant.1)

pub returns : goal.returns
returns c =
    sym (base-scalar c.args.words.now c.loop-at.at (omega arith)) ∙ c.loop-at.invariant.1
