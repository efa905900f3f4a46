use Rattle.sheet.proofs.Turning.{turn_at, after_turn}
use Rattle.step.specs.inner.Code.{state_of}
use Rattle.frame.proofs.Parts.{whole_length, name_in}
use Rattle.frame.specs.inner.Items.{sheet_in}
use Rattle.sheet.proofs.one_turn.Goals as goal

-- `sheet::one_turn` meets its contract: what the step did decides the turn. Assumes nothing.

pub noted_step-d-requires : goal.noted_step-d-requires
noted_step-d-requires c = let a = c.args in (c.requires.0, rw c.item-found.ensures (name_in a.items.version a.items.bytes.now a.here.at.0), c.requires.1)

pub returns : goal.returns
returns c = let a = c.args in
    let d = c.noted_step-d in
    let x = c.item-found in
    let s = sheet_in a.items in
    let n = whole_length a.items.version a.items.bytes.now in
    (turn_at a.profile s a.here.at.0 _ n (state_of a.here.count a.stack.now a.here.used a.table.now) d.result c.turn_by.result _ _ x.result x.ensures d.ensures.0 c.turn_by.ensures, after_turn _ _ _ _ _ _ s n d.result c.turn_by.result c.turn_by.ensures d.ensures.1)
