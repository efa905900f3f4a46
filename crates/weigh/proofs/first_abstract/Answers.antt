-- `weigh::first_abstract` meets its contract. The loop's invariant: how many were passed, and the first of those that are left. Assumes nothing.
use Prim.Native.Nat.{ℕ, ◌+◌}
use mathlib.Core.Path.{◌≡◌, sym, ◌∙◌, ap}
use mathlib.Core.List.{map}
use native.Mathlib.Omega.{arith}
use native.Mathlib.Nat.{zero-add, add-zero}
use lib.ListN.{length}
use Rattle.conv.specs.Types.{abstract_ty}
use Rattle.overload.specs.inner.Code.{operand}
use Rattle.weigh.specs.Weigh.{first_by, place_in}
use Rattle.weigh.proofs.Weighing.{abstract-here, abstract-later, abstract-end, place-at, place-past}
use Rattle.weigh.proofs.first_abstract.Goals as goal

pub loop-i-init : goal.loop-i-init
loop-i-init c = sym (zero-add _)

pub returns-then-s : goal.returns-then-s
returns-then-s c =
    let a = c.args in
    let l = c.loop-i in
    let first : first_by abstract_ty (map operand a.ps.now) ≡ l.i =
    l.invariant ∙ ap (λ (k : ℕ). l.i + k) (abstract-here a.ps.now l.i c.loop-i-test.true (c.requires l.i c.loop-i-test.true) c.if-s.true) ∙ add-zero _ in
    sym (ap (place_in (length a.ps.now)) first ∙ place-at _ _ c.loop-i-test.true)

pub loop-i-preserved : goal.loop-i-preserved
loop-i-preserved c =
    let a = c.args in
    let l = c.loop-i in
    l.invariant ∙ ap (λ (k : ℕ). l.i + k) (abstract-later a.ps.now l.i c.loop-i-test.true (c.requires l.i c.loop-i-test.true) c.if-s.false) ∙ omega arith

pub returns : goal.returns
returns c =
    let a = c.args in
    let l = c.loop-i in
    let first : first_by abstract_ty (map operand a.ps.now) ≡ l.i = l.invariant ∙ ap (λ (k : ℕ). l.i + k) (abstract-end a.ps.now l.i c.loop-i-test.false) ∙ add-zero _ in
    sym (ap (place_in (length a.ps.now)) first ∙ place-past _ _ c.loop-i-test.false)
