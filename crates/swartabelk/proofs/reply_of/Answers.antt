-- `swartabelk::reply_of` meets its contract, case by case of the answer. Assumes nothing.
use mathlib.Core.Path.{◌∙◌}
use native.Mathlib.Omega.{arith}
use Rattle.swartabelk.proofs.Telling.{value-fits, none-fits, refused-fits, value-told, none_told, refused-told}
use Rattle.swartabelk.proofs.reply_of.Goals as goal

pub narrow-requires : goal.narrow-requires
narrow-requires c = (value-fits _ c.requires c.in-Value.t c.in-Value.used c.in-Value.is).0

pub narrow-requires-in-Value : goal.narrow-requires-in-Value
narrow-requires-in-Value c = omega (arith, (value-fits _ c.requires c.in-Value.t c.in-Value.used c.in-Value.is).1)

pub narrow-requires-in-NoValue : goal.narrow-requires-in-NoValue
narrow-requires-in-NoValue c = none-fits _ c.requires c.in-NoValue.n c.in-NoValue.is

pub narrow-requires-in-Refused : goal.narrow-requires-in-Refused
narrow-requires-in-Refused c = (refused-fits _ c.requires c.in-Refused.r c.in-Refused.is).0

pub narrow-requires-in-Refused-2 : goal.narrow-requires-in-Refused-2
narrow-requires-in-Refused-2 c = (refused-fits _ c.requires c.in-Refused.r c.in-Refused.is).1

pub returns-in-Value : goal.returns-in-Value
returns-in-Value c = value-told c.args.typed _ c.mark_bit.ensures c.in-Value.t c.in-Value.used _ _ c.in-Value.is c.narrow.ensures (omega (arith, c.narrow-in-Value.ensures))

pub returns-in-NoValue : goal.returns-in-NoValue
returns-in-NoValue c = none_told c.args.typed _ c.mark_bit.ensures c.in-NoValue.n _ c.in-NoValue.is c.narrow-in-NoValue.ensures

pub returns-in-Refused : goal.returns-in-Refused
returns-in-Refused c = refused-told c.args.typed _ c.mark_bit.ensures c.in-Refused.r _ _ _ _ c.in-Refused.is (c.wide.ensures ∙ c.from.ensures) c.lacking_of.ensures c.narrow-in-Refused.ensures c.narrow-in-Refused-2.ensures
