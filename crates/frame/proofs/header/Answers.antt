-- `frame::header` meets its contract: each answer follows from the tests that led to it. Assumes nothing.
use Prim.Native.Nat.{◌<◌, ◌≤◌, ◌+◌, ◌*◌}
use mathlib.Core.Path.{sym, ◌∙◌}
use native.Mathlib.Omega.{arith}
use lib.ListN.{get_or}
use borrow.Author.Tests.{le-leb, lt-leb}
use Rattle.frame.specs.Frame.{header_ok}
use Rattle.frame.proofs.header.Goals as goal

pub returns-in_default : goal.returns-in_default
unfolding header_ok
returns-in_default c = simp (lt-leb _ _ c.in_default.len_below)

pub returns-then-not-known_version : goal.returns-then-not-known_version
unfolding header_ok
returns-then-not-known_version c = simp (le-leb _ _ c.in-len3-up.len_at_least, sym c.known_version.ensures ∙ c.if-not-known_version.true)

pub returns-then-len-gt-LONGEST : goal.returns-then-len-gt-LONGEST
unfolding header_ok
returns-then-len-gt-LONGEST c = let s = c.args.sheet.now in
    let h : 60000 < get_or s 1 0 * 256 + get_or s 2 0 = omega (arith, c.wide-2.ensures, c.wide.ensures) in
    simp (le-leb _ _ c.in-len3-up.len_at_least, sym c.known_version.ensures ∙ c.if-not-known_version.false, lt-leb _ _ h)

pub returns : goal.returns
unfolding header_ok
returns c = let s = c.args.sheet.now in
    let h : get_or s 1 0 * 256 + get_or s 2 0 ≤ 60000 = omega (arith, c.wide-2.ensures, c.wide.ensures) in
    simp (le-leb _ _ c.in-len3-up.len_at_least, sym c.known_version.ensures ∙ c.if-not-known_version.false, le-leb _ _ h, c.wide-2.ensures, c.wide.ensures)
