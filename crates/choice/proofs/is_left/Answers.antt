-- `choice::is_left` meets its contract. Assumes nothing.
use mathlib.Core.Path.{sym, ◌∙◌, ap}
use mathlib.Core.List.{map}
use mathlib.Core.Bool.{Bool, not, ◌&&◌}
use native.Mathlib.Omega.{arith}
use lib.ListN.{length, length-map}
use lib.Dec.{ltb}
use Prim.Native.Nat.{ℕ}
use Rattle.conv.specs.Types.{abstract_ty}
use Rattle.conv.specs.Rank.{both}
use Rattle.overload.specs.inner.Code.{operand}
use Rattle.overload.specs.Marks.{any_abstract}
use Rattle.weigh.specs.Weigh.{first_by}
use Rattle.std.specs.Prelude.{is_some}
use Rattle.weigh.proofs.Weighing.{place-there, placed, not-placed}
use Rattle.weigh.proofs.Firsts.{missed, unmissed, some-abstract}
use Rattle.choice.specs.inner.Chosen.{left_by}
use Rattle.choice.proofs.Choosing.{left_is}
use Rattle.choice.proofs.is_left.Goals as goal

pub returns-then-is_some : goal.returns-then-is_some
unfolding both
returns-then-is_some c = let a = c.args in let m = missed (map operand a.ps.now) (map operand a.xs.now) (length-map a.xs.now operand ∙ c.requires.1 ∙ sym (length-map a.ps.now operand)) (omega (arith, placed _ _ _ c.first_miss.ensures (sym c.if-is_some.ensures), length-map a.xs.now operand)) in sym (ap (λ (b : Bool). both b (left_by a.running (map operand a.ps.now))) m)

pub returns : goal.returns
unfolding both
returns c = let a = c.args in let e = c.requires.1 in let u = unmissed (map operand a.ps.now) (map operand a.xs.now) (length-map a.xs.now operand ∙ e ∙ sym (length-map a.ps.now operand)) (omega (arith, not-placed _ _ _ c.first_miss.ensures (sym c.if-is_some.ensures), length-map a.xs.now operand)) in ap (λ (b : Bool). not (a.running && b)) (c.is_some-2.ensures ∙ ap is_some c.first_abstract.ensures ∙ place-there _ _ ∙ ap (ltb (first_by abstract_ty (map operand a.ps.now))) (sym (length-map a.ps.now operand)) ∙ sym (some-abstract (map operand a.ps.now))) ∙ left_is a.running (any_abstract (map operand a.ps.now)) ∙ sym (ap (λ (b : Bool). both b (left_by a.running (map operand a.ps.now))) u)
