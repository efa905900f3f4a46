-- `conv::conversion_rank` meets its contract: plain types of one width, by their components. Assumes nothing.
use Rattle.conv.specs.Rank.{none, rank_of, plain_rank, found}
use Rattle.conv.proofs.Ranks.{plain-rank, plain-from, plain-to}
use borrow.Author.Tests.{eq-eqb, ne_eqb}
use native.Mathlib.Omega.{arith}
use Prim.Native.Nat.{◌/◌, ◌%◌}
use mathlib.Core.Path.{◌≡◌, sym, ◌∙◌, ap}
use mathlib.Core.Logic.{◌≢◌}
use Rattle.conv.proofs.conversion_rank.Goals as goal

pub returns-then-from-ge-PLAINS : goal.returns-then-from-ge-PLAINS
returns-then-from-ge-PLAINS c = ap found (sym (plain-from _ _ c.if-from-ge-PLAINS.true))

pub returns-then-to-ge-PLAINS : goal.returns-then-to-ge-PLAINS
returns-then-to-ge-PLAINS c = ap found (sym (plain-to _ _ (omega arith) c.if-to-ge-PLAINS.true))

pub returns-then-from-to : goal.returns-then-from-to
returns-then-from-to c =
    let a = c.args in
    let widths : a.from / 7 ≢ a.to / 7 = c.if-from-to.true in
    let none_is : plain_rank a.from a.to ≡ none = plain-rank a.from a.to (omega arith) (omega arith) ∙ rw (ne_eqb _ _ widths) in
    ap found (sym none_is)

pub returns : goal.returns
returns c =
    let a = c.args in
    let widths : a.from / 7 ≡ a.to / 7 = c.if-from-to.false in
    let by_component : plain_rank a.from a.to ≡ rank_of (a.from % 7) (a.to % 7) = plain-rank a.from a.to (omega arith) (omega arith) ∙ rw (eq-eqb _ _ widths) in
    c.board.ensures ∙ ap found (sym by_component)
