-- `frame::call_name` meets its contract: the name lies within the sheet (`FrameLaws`). Assumes nothing.
use mathlib.Core.Path.{◌≡◌}
use Rattle.frame.specs.Frame.{name_part}
use Rattle.frame.proofs.FrameLaws.{name-within}
use Rattle.frame.proofs.call_name.Goals as goal

pub part_of-requires : goal.part_of-requires
part_of-requires c = rw c.call_part-name.ensures (name-within _ _)

pub returns : goal.returns
returns c =
    let a = c.args in
    let shown : c.call_part-name.result ≡ name_part a.sheet.now a.at.0 = c.call_part-name.ensures in
    rw (← shown) c.part_of.ensures
