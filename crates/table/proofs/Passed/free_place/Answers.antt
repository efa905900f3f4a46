-- `table::Passed::free_place` meets its contract: the loop goes along e's way, whose places rise. Assumes nothing.
use native.Mathlib.Omega.{arith}
use mathlib.Core.Bool.{true, false}
use mathlib.Core.Path.{◌≡◌, sym, ◌∙◌, ap}
use Rattle.table.proofs.SlotLaws.{slot-below, walk_start, walk-hit, walk-rise, walk_step, walk_end}
use Rattle.table.specs.declared.Entry.{Entry}
use Rattle.table.specs.Table.{sameb, entry_at}
use Rattle.table.proofs.Passed.free_place.Goals as goal

pub bounds-self-place : goal.bounds-self-place
bounds-self-place c = let b = slot-below c.args.e in let s = c.slot_of-place.ensures in let l = c.requires.4.linked.wide in omega arith

pub loop-at-init : goal.loop-at-init
loop-at-init c = let a = c.args in let p = c.requires in (walk_start a.words.now a.i a.self.now.links a.e p.1 p.2 p.4.linked _ _ c.slot_of-place.ensures c.turns_of-turns.ensures, c.wide-at.ensures)

pub entry_at-requires : goal.entry_at-requires
entry_at-requires c = let p = c.requires in let l = p.4.linked.low c.loop-at.place in let q = c.loop-at.invariant.1 in let r = p.0 in omega arith

pub returns-then-alike : goal.returns-then-alike
returns-then-alike c =
    let a = c.args in
    let p = c.requires in
    let l = c.loop-at in
    let s : sameb (entry_at a.words.now l.at) a.e ≡ true = ap (λ (x : Entry). sameb x a.e) (sym c.entry_at.ensures) ∙ sym c.alike.ensures ∙ c.if-alike.true in
    sym (walk-hit a.words.now a.i a.self.now.links a.e p.1 p.2 p.4.linked l.place l.turns l.invariant.0 l.at l.invariant.1 s)

pub fork_of-place-requires : goal.fork_of-place-requires
fork_of-place-requires c = let p = c.requires in let l = p.4.linked.low c.loop-at.place in let q = c.loop-at.invariant.1 in let r = p.2 in omega arith

pub loop-at-smaller : goal.loop-at-smaller
loop-at-smaller c =
    let a = c.args in
    let p = c.requires in
    let l = c.loop-at in
    let inside = l.invariant.0.inside in
    let high = p.2 in
    let f = c.fork_of-place.ensures in
    let r = walk-rise a.words.now a.i a.self.now.links a.e p.1 p.2 p.4.linked l.place l.turns l.invariant.0 l.at l.invariant.1 c.loop-at-test.true in
    omega arith

pub loop-at-preserved : goal.loop-at-preserved
loop-at-preserved c =
    let a = c.args in
    let p = c.requires in
    let l = c.loop-at in
    let s : sameb (entry_at a.words.now l.at) a.e ≡ false = ap (λ (x : Entry). sameb x a.e) (sym c.entry_at.ensures) ∙ sym c.alike.ensures ∙ c.if-alike.false in
    (rw c.fork_of-place.ensures (walk_step a.words.now a.i a.self.now.links a.e p.1 p.2 p.4.linked l.place l.turns l.invariant.0 l.at l.invariant.1 c.loop-at-test.true s), c.wide-at-in-loop-at.ensures)

pub returns : goal.returns
returns c =
    let a = c.args in
    let p = c.requires in
    let l = c.loop-at in
    let end = c.loop-at-test.false in
    walk_end a.words.now a.i a.self.now.links a.e p.1 p.2 p.4.linked l.place l.turns l.invariant.0 l.at l.invariant.1 (omega arith) p.3
