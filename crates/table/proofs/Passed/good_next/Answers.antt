-- `table::Passed::good_next` meets its contract: the row's rule, then the place on its way. Assumes nothing.
use Prim.Native.Nat.{ℕ}
use native.Mathlib.Omega.{arith}
use mathlib.Core.Bool.{true, false, ◌&&◌}
use mathlib.Core.Path.{◌≡◌, sym, ◌∙◌, ap, subst}
use Rattle.std.specs.Prelude.{Option, None}
use Rattle.table.proofs.SlotLaws.{made-new, made-good, made-below, linked-next, based-next}
use Rattle.table.specs.inner.Slots.{Free, Ended}
use Rattle.table.specs.declared.Entry.{Entry}
use Rattle.table.specs.Table.{made_ok, find_in, is_nothing}
use Rattle.table.proofs.Passed.good_next.Goals as goal
use Rattle.table.proofs.Passed.good_next.Goals.{In-Some}

pub returns-then-not-made_ok-clause-good : goal.returns-then-not-made_ok-clause-good
returns-then-not-made_ok-clause-good c =
    let a = c.args in
    let p = c.requires in
    let e = c.entry_at-e.result in
    let m : made_ok a.words.now a.i e ≡ false = sym c.made_ok.ensures ∙ c.if-not-made_ok.true in
    let s : (made_ok a.words.now a.i e && is_nothing (find_in a.words.now a.i e)) ≡ false = rw m in
    sym s ∙ made-good a.words.now a.i p.1 e c.entry_at-e.ensures

pub free_place-requires : goal.free_place-requires
free_place-requires c =
    let a = c.args in
    let p = c.requires in
    let room = p.0 in
    let high = p.2 in
    (omega arith, p.1, omega arith, made-new a.words.now p.3 c.entry_at-e.result a.i (sym c.made_ok.ensures ∙ c.if-not-made_ok.false), p.4)

pub returns-in_default-clause-good : goal.returns-in_default-clause-good
returns-in_default-clause-good c =
    let a = c.args in
    let p = c.requires in
    let e = c.entry_at-e.result in
    let m : made_ok a.words.now a.i e ≡ true = sym c.made_ok.ensures ∙ c.if-not-made_ok.false in
    let f : Ended a.words.now a.i a.self.now.links e None = subst (λ (r : Option ℕ). Ended a.words.now a.i a.self.now.links e r) c.in_default.is c.free_place.ensures in
    let s : (made_ok a.words.now a.i e && is_nothing (find_in a.words.now a.i e)) ≡ false = rw (m, f) in
    sym s ∙ made-good a.words.now a.i p.1 e c.entry_at-e.ensures

-- the place that was found
found : (c : In-Some) → Free c.args.words.now c.args.i c.args.self.now.links c.entry_at-e.result c.in-Some.place
found c = let a = c.args in subst (λ (r : Option ℕ). Ended a.words.now a.i a.self.now.links c.entry_at-e.result r) c.in-Some.is c.free_place.ensures

pub bounds-self-word : goal.bounds-self-word
bounds-self-word c =
    let a = c.args in
    let high = c.requires.2 in
    let l = made-below a.words.now a.i c.entry_at-e.result (sym c.made_ok.ensures ∙ c.if-not-made_ok.false) in
    let q = c.word.ensures in
    omega arith

pub returns-clause-good : goal.returns-clause-good
returns-clause-good c =
    let a = c.args in
    let e = c.entry_at-e.result in
    let m : made_ok a.words.now a.i e ≡ true = sym c.made_ok.ensures ∙ c.if-not-made_ok.false in
    let f = found (goal.at.returns-clause-good c).In-Some in
    let s : (made_ok a.words.now a.i e && is_nothing (find_in a.words.now a.i e)) ≡ true = rw (m, f.new) in
    sym s ∙ made-good a.words.now a.i c.requires.1 e c.entry_at-e.ensures

pub returns-clause-passed : goal.returns-clause-passed
returns-clause-passed c _ =
    let a = c.args in
    let p = c.requires in
    let w = a.words.now in
    let i = a.i in
    let e = c.entry_at-e.result in
    let f = found (goal.at.returns-clause-passed c).In-Some in
    let l = made-below w i e (sym c.made_ok.ensures ∙ c.if-not-made_ok.false) in
    let q = c.word.ensures in
    record {
      linked = linked-next w i p.1 p.2 a.self.now.links p.4.linked e c.entry_at-e.ensures c.in-Some.place f;
      based = based-next w i p.1 p.2 a.self.now.bases p.4.based c.word.result (q ∙ ap (λ (x : Entry). x.elem) c.entry_at-e.ensures) (omega arith);
    }
