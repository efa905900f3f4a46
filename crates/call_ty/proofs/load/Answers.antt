-- `call_ty::load` meets its contract. The loop's invariant: the codes passed are the operands' numbers, and no operand passed is a reference. Assumes nothing.
use Prim.Native.Nat.{ℕ, ◌<◌}
use mathlib.Core.Bool.{false}
use mathlib.Core.Path.{◌≡◌, sym, ◌∙◌, ap}
use native.Mathlib.Omega.{arith}
use lib.Seq.{get_or-set_same, get_or-set_other}
use lib.ListN.{length, get_or, set, length-set, length-map, length-replicate}
use borrow.Author.Count.{below_more}
use Rattle.held.specs.Held.{number_of}
use Rattle.conv.specs.Rank.{is_reference}
use Rattle.overload.specs.inner.Code.{code_of}
use Rattle.table.specs.Denote.{type_at}
use Rattle.ruled.proofs.Loaded.{offered, not-offered}
use Rattle.call_ty.specs.Calls.{numbers}
use Rattle.call_ty.proofs.Lists.{number_at, some-reference, no-reference, codes-in}
use Rattle.call_ty.proofs.load.Goals as goal

pub loop-i-init : goal.loop-i-init
loop-i-init g c = (length-replicate g.row.N 0, (λ k h. absurd (omega arith)), (λ k h. absurd (omega arith)))

pub code_at-x-requires : goal.code_at-x-requires
code_at-x-requires g c =
    let v = c.args.args.now in
    let i = c.loop-i.i in
    let k = length-map v number_of in
    let l = c.requires.1 i (omega (arith, c.loop-i-test.true)) in
    let q = number_at v i in
    let e = c.number.ensures in
    (c.requires.0, omega arith)

pub returns-then-x-eq-REFERENCE : goal.returns-then-x-eq-REFERENCE
returns-then-x-eq-REFERENCE g c = let a = c.args in
    let i = c.loop-i.i in
    let m = length-map a.args.now number_of in
    let l : i < length (numbers a.args.now) = omega (arith, c.loop-i-test.true) in
    let e = c.code_at-x.ensures ∙ ap (λ (k : ℕ). code_of (type_at a.words.now k)) (c.number.ensures ∙ sym (number_at a.args.now i)) in
    some-reference a.words.now (numbers a.args.now) i l (offered a.words.now a.n c.requires.0 (get_or (numbers a.args.now) i 0) (c.requires.1 i l) _ e c.if-x-eq-REFERENCE.true)

pub loop-i-preserved : goal.loop-i-preserved
loop-i-preserved g c = let a = c.args in
    let i = c.loop-i.i in
    let m = length-map a.args.now number_of in
    let l : i < length (numbers a.args.now) = omega (arith, c.loop-i-test.true) in
    let cs = c.loop-i.codes in
    let v = c.loop-i.invariant in
    let x = c.code_at-x.result in
    let e = c.code_at-x.ensures ∙ ap (λ (k : ℕ). code_of (type_at a.words.now k)) (c.number.ensures ∙ sym (number_at a.args.now i)) in
    let q = v.0 in
    let p = c.requires.2 in (
      length-set cs i x ∙ q,
      below_more (λ (k : ℕ). get_or (set cs i x) k 0 ≡ code_of (type_at a.words.now (get_or (numbers a.args.now) k 0))) i (λ k h. get_or-set_other cs i k x 0 (λ z. omega arith) ∙ v.1 k h) (get_or-set_same cs i x 0 (omega arith) ∙ e),
      below_more (λ (k : ℕ). is_reference (type_at a.words.now (get_or (numbers a.args.now) k 0)) ≡ false) i v.2 (not-offered a.words.now a.n c.requires.0 (get_or (numbers a.args.now) i 0) (c.requires.1 i l) _ e c.if-x-eq-REFERENCE.false),
    )

pub returns : goal.returns
returns g c = let a = c.args in
    let v = c.loop-i.invariant in
    let q = v.0 in
    let p = c.requires.2 in
    let n = c.loop-i-test.false in
    let m = length-map a.args.now number_of in
    (no-reference a.words.now (numbers a.args.now) (λ k l. v.2 k (omega arith)), codes-in a.words.now (numbers a.args.now) c.loop-i.codes (omega arith) (λ k l. v.1 k (omega arith)))
