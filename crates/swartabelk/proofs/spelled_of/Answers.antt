-- `swartabelk::spelled_of` meets its contract, case by case of the spelling's reply. Assumes nothing.
use Rattle.swartabelk.proofs.Telling.{length-fits, long-fits, length-told, long-told}
use mathlib.Core.Path.{◌∙◌}
use Rattle.swartabelk.proofs.spelled_of.Goals as goal

pub narrow-requires : goal.narrow-requires
narrow-requires c = length-fits _ c.requires c.in-Ok.k c.in-Ok.is

pub narrow-requires-in-Err : goal.narrow-requires-in-Err
narrow-requires-in-Err c = (long-fits _ c.requires c.in-Err.r c.in-Err.is).0

pub narrow-requires-in-Err-2 : goal.narrow-requires-in-Err-2
narrow-requires-in-Err-2 c = (long-fits _ c.requires c.in-Err.r c.in-Err.is).1

pub returns-in-Ok : goal.returns-in-Ok
returns-in-Ok c = length-told c.args.n c.args.s _ 0 0 c.in-Ok.k c.in-Ok.is c.narrow.ensures

pub returns-in-Err : goal.returns-in-Err
returns-in-Err c = long-told c.args.n c.args.s _ _ _ c.in-Err.r c.in-Err.is (c.wide.ensures ∙ c.from.ensures) c.narrow-in-Err.ensures c.narrow-in-Err-2.ensures
