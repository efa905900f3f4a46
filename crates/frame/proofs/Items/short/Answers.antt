-- `frame::Items::short` meets its contract: three bytes that the tests found are a push without a mark or an operator, and no other is (`Reading`). Assumes nothing.
use Prim.Native.Nat.{ℕ, ◌+◌, ◌-◌}
use mathlib.Core.Path.{◌≡◌, sym, ap, ◌∙◌}
use native.Mathlib.Omega.{arith}
use borrow.Author.Tests.{eqb-true}
use Rattle.frame.specs.Frame.{version2, header_size, item_at}
use Rattle.frame.specs.inner.Items.{sheet_of, short_of}
use Rattle.frame.proofs.Parts.{whole-marked}
use Rattle.frame.proofs.Reading.{short-header, short-near, short-other, short-long, short-is, as-none, as-some, sized}
use Rattle.frame.proofs.Items.short.Goals.{then-has_marks+else-kind-eq-ITEM_PUSH, else-has_marks}
use Rattle.frame.proofs.Items.short.Goals as goal

pub returns-then-at-lt-HEADER : goal.returns-then-at-lt-HEADER
returns-then-at-lt-HEADER c = let a = c.args in short-header a.self.version a.self.bytes.now a.at.0 c.if-at-lt-HEADER.true

pub returns-then-items-first : goal.returns-then-items-first
returns-then-items-first c = let a = c.args in short-near a.self.version a.self.bytes.now a.at.0 c.if-at-lt-HEADER.false c.if-items-first.true

pub returns-then-kind-eq-ITEM_PUSH : goal.returns-then-kind-eq-ITEM_PUSH
returns-then-kind-eq-ITEM_PUSH c = let a = c.args in
    let e : header_size + (a.at.0 - header_size) ≡ a.at.0 = omega (arith, c.if-at-lt-HEADER.false) in
    let v : a.self.version ≡ version2 = eqb-true _ _ (sym (c.has_marks.ensures ∙ whole-marked a.self.version a.self.bytes.now) ∙ c.if-has_marks.true) in
    c.marked_push.ensures ∙ ap (λ (n : ℕ). short_of (item_at (sheet_of version2 a.self.bytes.now) n)) e ∙ ap (λ (v : ℕ). short_of (item_at (sheet_of v a.self.bytes.now) a.at.0)) (sym v)

pub returns-in_err-item : goal.returns-in_err-item
returns-in_err-item c = let a = c.args in
    c.from_residual.ensures ∙ short-other a.self.version a.self.bytes.now a.at.0 c.if-at-lt-HEADER.false (as-none _ _ (sym c.short_item.ensures ∙ c.in_err-item.was))

pub returns-then-items-first-ne-SHORT_FOLLOWING : goal.returns-then-items-first-ne-SHORT_FOLLOWING
returns-then-items-first-ne-SHORT_FOLLOWING c = let a = c.args in
    short-long a.self.version a.self.bytes.now a.at.0 c.if-at-lt-HEADER.false (λ k. elim c.if-has_marks.branch [ then-has_marks+else-kind-eq-ITEM_PUSH w ↦ absurd (w.if-kind-eq-ITEM_PUSH.false k) | else-has_marks w ↦ sym (c.has_marks.ensures ∙ whole-marked a.self.version a.self.bytes.now) ∙ w.if-has_marks.false ]) c.if-items-first-ne-SHORT_FOLLOWING.true

pub returns : goal.returns
returns c = let a = c.args in
    let e = sym c.in_ok-item.was ∙ c.short_item.ensures in
    let k = as-some _ _ _ (sym e) in
    ap (sized 3) e
    ∙ short-is a.self.version a.self.bytes.now a.at.0 c.if-at-lt-HEADER.false (λ k. elim c.if-has_marks.branch [ then-has_marks+else-kind-eq-ITEM_PUSH w ↦ absurd (w.if-kind-eq-ITEM_PUSH.false k) | else-has_marks w ↦ sym (c.has_marks.ensures ∙ whole-marked a.self.version a.self.bytes.now) ∙ w.if-has_marks.false ]) c.if-items-first.false c.if-items-first-ne-SHORT_FOLLOWING.false k.0 k.1
