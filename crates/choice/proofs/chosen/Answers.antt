-- `choice::chosen` meets its contract. The loop's invariant: none passed is chosen. Assumes nothing.
use Prim.Native.Nat.{ℕ, ◌<◌}
use mathlib.Core.Path.{◌≡◌, sym, ◌∙◌, ap}
use mathlib.Core.Bool.{false}
use mathlib.Core.List.{map}
use native.Mathlib.Omega.{arith}
use borrow.Author.Count.{below_more}
use Rattle.overload.specs.Rows.{row_at, overloads_of}
use Rattle.overload.specs.inner.Code.{operand}
use Rattle.listing.specs.Listing.{no_overload, overload_at}
use lib.ListN.{length}
use Rattle.weigh.specs.Weigh.{place_in}
use Rattle.weigh.proofs.Firsts.{first-at, first-none}
use Rattle.weigh.proofs.Weighing.{place-at, place-past}
use Rattle.choice.specs.inner.Chosen.{chosen_by}
use Rattle.choice.proofs.chosen.Goals as goal

pub loop-i-init : goal.loop-i-init
loop-i-init c = λ k h. absurd (omega arith)

pub is_chosen-requires : goal.is_chosen-requires
is_chosen-requires c = (c.requires, omega (arith, c.count-i-end.ensures.0, c.loop-i-test.true))

pub returns-then-is_chosen : goal.returns-then-is_chosen
returns-then-is_chosen c =
    let a = c.args in
    let os = overloads_of (row_at a.row) in
    let l : c.loop-i.i < length os = omega (arith, c.count-i-end.ensures.0, c.loop-i-test.true) in
    let first = first-at (chosen_by a.running (row_at a.row) (map operand a.xs.now)) no_overload os c.loop-i.i l c.loop-i.invariant (sym c.is_chosen.ensures ∙ c.if-is_chosen.true) in
    sym (ap (place_in (length os)) first ∙ place-at _ _ l)

pub loop-i-preserved : goal.loop-i-preserved
loop-i-preserved c =
    let a = c.args in
    below_more (λ (k : ℕ). chosen_by a.running (row_at a.row) (map operand a.xs.now) (overload_at (row_at a.row) k) ≡ false) _ c.loop-i.invariant (sym c.is_chosen.ensures ∙ c.if-is_chosen.false)

pub returns : goal.returns
returns c =
    let a = c.args in
    let os = overloads_of (row_at a.row) in
    let first = first-none (chosen_by a.running (row_at a.row) (map operand a.xs.now)) no_overload os (λ k h. c.loop-i.invariant k (omega (arith, c.count-i-end.ensures.0, c.loop-i-test.false))) in
    sym (ap (place_in (length os)) first ∙ place-past (length os) (length os) (omega arith))
