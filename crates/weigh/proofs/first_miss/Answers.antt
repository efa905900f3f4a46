-- `weigh::first_miss` meets its contract. The loop's invariant: how many were passed, and the first of those that are left. Assumes nothing.
use Prim.Native.Nat.{ℕ, ◌+◌}
use mathlib.Core.Path.{◌≡◌, sym, ◌∙◌, ap}
use mathlib.Core.Bool.{true, false}
use mathlib.Core.List.{map}
use native.Mathlib.Omega.{arith}
use native.Mathlib.Nat.{zero-add, add-zero}
use lib.ListN.{length}
use Rattle.std.specs.Prelude.{is_some}
use Rattle.overload.specs.inner.Code.{operand}
use Rattle.weigh.specs.Weigh.{first_miss, place_in}
use Rattle.weigh.proofs.Weighing.{miss-here, miss_later, miss-end, place-at, place-past}
use Rattle.weigh.proofs.first_miss.Goals as goal

pub loop-i-init : goal.loop-i-init
loop-i-init c = sym (zero-add _)

pub returns-then-is_none : goal.returns-then-is_none
returns-then-is_none c =
    let a = c.args in
    let l = c.loop-i in
    let e : is_some c.rank.result ≡ false = c.if-is_none.ensures in
    let first : first_miss (map operand a.ps.now) (map operand a.xs.now) ≡ l.i =
    l.invariant
    ∙ ap (λ (k : ℕ). l.i + k) (miss-here a.ps.now a.xs.now l.i c.loop-i-test.true (omega (arith, c.requires.1)) (omega (arith, c.type_inv.xs l.i)) (c.requires.0 l.i c.loop-i-test.true) (ap is_some (sym c.rank.ensures) ∙ e))
    ∙ add-zero _ in
    sym (ap (place_in (length a.xs.now)) first ∙ place-at _ _ (omega (arith, c.requires.1)))

pub loop-i-preserved : goal.loop-i-preserved
loop-i-preserved c =
    let a = c.args in
    let l = c.loop-i in
    let e : is_some c.rank.result ≡ true = c.if-is_none.ensures in
    l.invariant
    ∙ ap (λ (k : ℕ). l.i + k) (miss_later a.ps.now a.xs.now l.i c.loop-i-test.true (omega (arith, c.requires.1)) (omega (arith, c.type_inv.xs l.i)) (c.requires.0 l.i c.loop-i-test.true) (ap is_some (sym c.rank.ensures) ∙ e))
    ∙ omega arith

pub returns : goal.returns
returns c =
    let a = c.args in
    let l = c.loop-i in
    let first : first_miss (map operand a.ps.now) (map operand a.xs.now) ≡ l.i =
    l.invariant ∙ ap (λ (k : ℕ). l.i + k) (miss-end a.ps.now a.xs.now l.i c.loop-i-test.false) ∙ add-zero _ in
    sym (ap (place_in (length a.xs.now)) first ∙ place-past _ _ (omega (arith, c.requires.1, c.loop-i-test.false)))
