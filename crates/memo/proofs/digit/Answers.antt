-- `memo::digit` meets its contract: the number, and 256 more with the mark. Assumes nothing.
use mathlib.Core.Bool.{true, false}
use native.Mathlib.Omega.{arith}
use Prim.Native.Nat.{◌+◌}
use mathlib.Core.Path.{◌≡◌, sym, ◌∙◌}
use Rattle.held.specs.Held.{number_of, mark_of}
use Rattle.memo.proofs.digit.Goals as goal

pub returns-then-running : goal.returns-then-running
returns-then-running c = let a = c.args in
    let n = c.number-t in
    let m : mark_of a.v ≡ true = sym c.running.ensures ∙ c.if-running.true in
    let h = c.requires in
    (rw m (let z : n.result.0 + 256 ≡ number_of a.v + 256 = omega (arith, n.ensures) in z), omega (arith, n.ensures, h))

pub returns : goal.returns
returns c = let a = c.args in
    let n = c.number-t in
    let m : mark_of a.v ≡ false = sym c.running.ensures ∙ c.if-running.false in
    let h = c.requires in
    (rw m n.ensures, omega (arith, n.ensures, h))
