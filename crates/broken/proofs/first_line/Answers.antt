-- `broken::first_line` meets its contract. Assumes nothing.
use mathlib.Core.Path.{ap}
use mathlib.Core.List.{List}
use Prim.Native.Nat.{ℕ}
use native.Mathlib.Omega.{arith}
use Rattle.text.proofs.Puts.{put_as}
use Rattle.ruled.specs.Call.{operand_ty}
use Rattle.reasons.specs.Reasons.{wanted_line}
use Rattle.broken.proofs.first_line.Goals as goal

pub wanted_line-requires : goal.wanted_line-requires
wanted_line-requires c = let p = c.requires in (p.0, p.1, omega arith, c.first_wanted.ensures.short, p.3)

pub returns : goal.returns
returns c = let a = c.args in record { put = put_as (ap (λ (s : List ℕ). wanted_line 0 (operand_ty a.words.now a.v) s) (c.first_wanted.ensures.wanted c.requires.2)) c.wanted_line.ensures.put; upper_bound = c.wanted_line.ensures.upper_bound }
