-- `frame::part_of` meets its contract: the part begins and ends as the code says. Assumes nothing.
use mathlib.Core.Path.{refl}
use native.Mathlib.Nat.{add-sub_cancel_left}
use Rattle.frame.proofs.part_of.Goals as goal

pub returns : goal.returns
returns c = record { begins = refl; bytes = rw add-sub_cancel_left }
