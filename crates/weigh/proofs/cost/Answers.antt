-- `weigh::cost` meets its contract. Assumes nothing.
use mathlib.Core.Path.{◌∙◌, ap}
use Rattle.std.specs.Prelude.{Option, unwrap_or}
use Prim.Native.Nat.{ℕ}
use Rattle.conv.proofs.Answered.{found-or}
use Rattle.weigh.proofs.cost.Goals as goal

pub returns : goal.returns
returns c = c.unwrap_or.ensures ∙ ap (λ (r : Option ℕ). unwrap_or r 255) c.rank.ensures ∙ found-or _
