-- `table::scalars_stand` meets its contract. The loop has passed scalars alone. Assumes nothing.
use mathlib.Core.Path.{◌≡◌, sym, ◌∙◌, ap}
use mathlib.Core.Bool.{true, false}
use Rattle.table.specs.Table.{scalars, scalar_ok}
use Rattle.table.specs.inner.Slots.{scalar_at}
use Rattle.table.proofs.TableLaws.{all_none, all_more, all-stop}
use Rattle.table.proofs.scalars_stand.Goals as goal

pub loop-i-init : goal.loop-i-init
loop-i-init c = all_none _

pub returns-then-not-scalar_ok : goal.returns-then-not-scalar_ok
returns-then-not-scalar_ok c =
    let w = c.args.words.now in
    let i = c.loop-i.i in
    let e : scalar_at w i ≡ false = ap (scalar_ok i) (sym c.entry_at.ensures) ∙ sym c.scalar_ok.ensures ∙ c.if-not-scalar_ok.true in
    sym (all-stop (scalar_at w) i scalars e c.loop-i-test.true)

pub loop-i-preserved : goal.loop-i-preserved
loop-i-preserved c =
    let w = c.args.words.now in
    let i = c.loop-i.i in
    let e : scalar_at w i ≡ true = ap (scalar_ok i) (sym c.entry_at.ensures) ∙ sym c.scalar_ok.ensures ∙ c.if-not-scalar_ok.false in
    all_more (scalar_at w) i c.loop-i.invariant e
