-- `pieces::load` meets its contract. The loop's invariant: the codes passed are the operands' numbers. Assumes nothing.
use Prim.Native.Nat.{ℕ}
use mathlib.Core.Path.{◌≡◌, sym, ◌∙◌, ap}
use native.Mathlib.Omega.{arith}
use lib.Seq.{get_or-set_same, get_or-set_other}
use lib.ListN.{get_or, set, take, length-set, length-map}
use borrow.Author.Count.{below_more}
use Rattle.held.specs.Held.{number_of}
use Rattle.overload.specs.inner.Code.{code_of}
use Rattle.table.specs.Denote.{type_at}
use Rattle.call_ty.specs.Calls.{numbers}
use Rattle.call_ty.proofs.Lists.{number_at, codes-in}
use Rattle.pieces.proofs.load.Goals as goal

pub code_at-requires : goal.code_at-requires
code_at-requires c = let v = c.args.args.now in
    let i = c.loop-i.i in
    let k = length-map v number_of in
    let l = c.requires.1 i (omega (arith, c.loop-i-test.true)) in
    let q = number_at v i in
    let e = c.number.ensures in
    (c.requires.0, omega arith)

pub loop-i-preserved : goal.loop-i-preserved
loop-i-preserved c = let a = c.args in
    let i = c.loop-i.i in
    let cs = c.loop-i.codes in
    let v = c.loop-i.invariant in
    let x = c.code_at.result in
    let e = c.code_at.ensures ∙ ap (λ (k : ℕ). code_of (type_at a.words.now k)) (c.number.ensures ∙ sym (number_at a.args.now i)) in
    let p = c.requires.2 in
    let l = c.loop-i-test.true in
    let q = v.0 in (
      length-set cs i x ∙ q,
      below_more (λ (k : ℕ). get_or (set cs i x) k 0 ≡ code_of (type_at a.words.now (get_or (numbers a.args.now) k 0))) i (λ k h. get_or-set_other cs i k x 0 (λ z. omega arith) ∙ v.1 k h) (get_or-set_same cs i x 0 (omega arith) ∙ e),
    )

pub returns : goal.returns
returns c = let a = c.args in
    let v = c.loop-i.invariant in
    let q = v.0 in
    let p = c.requires.2 in
    let l = c.loop-i-test.false in
    let m = length-map a.args.now number_of in
    ap (λ (k : ℕ). take k c.loop-i.codes) (sym m ∙ sym (length-map (numbers a.args.now) (type_at a.words.now))) ∙ codes-in a.words.now (numbers a.args.now) c.loop-i.codes (omega arith) (λ k h. v.1 k (omega arith))
