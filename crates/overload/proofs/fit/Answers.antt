-- `overload::fit` meets its contract. The loop carries `Narrowed`: what is joined and left so far, with the operands that are left, fits as the whole does. Assumes nothing.
use Rattle.std.proofs.Common.{◌≡◌, ℕ, ◌+◌, ◌*◌, ◌/◌, ◌%◌, ◌<◌, ◌≤◌, get_or, sym, refl, ap, ◌∙◌, subst, arith}
use Rattle.conv.proofs.Answered.{found-nothing, found-it, found-some}
use Rattle.overload.specs.inner.Code.{asked_of, digit_of}
use Rattle.overload.proofs.Slots.{other-shape, same-shape}
use Rattle.overload.proofs.Narrow.{narrowed-as, start, apart, next-T, next-other, no_join, finish, few, form_small, component-small, shape-small}
use Rattle.overload.proofs.fit.Goals.{then-of-ge-OF_T+in_ok-join, else-of-ge-OF_T, In-loop-k, In_ok-s, After-digit-of}
use Rattle.overload.proofs.fit.Goals as goal

pub loop-k-init : goal.loop-k-init
loop-k-init c = let a = c.args in let p = c.requires in start a.f.no a.z.no a.xs.now a.z.small p.0 p.1

-- there are four parameters at most
below : (c : In-loop-k) → c.loop-k.k < 4
below c = let a = c.args in let p = c.requires in few a.f.no a.z.no a.xs.now a.z.small p.0 p.1 c.loop-k.k c.loop-k-test.true

pub digit-requires : goal.digit-requires
digit-requires c = let l = below c in omega arith

pub component-requires : goal.component-requires
component-requires c =
    let a = c.args in
    let p = c.requires in
    let k = c.loop-k.k in
    let h = c.loop-k-test.true in
    let e = sym c.digit.ensures in (
      subst (λ (d : ℕ). d < 7) e (form_small a.f.no a.z.no a.xs.now a.z.small p.0 p.1 k h),
      subst (λ (d : ℕ). asked_of d a.z.no < 13) e (shape-small a.f.no a.z.no a.xs.now a.z.small p.0 p.1 k h),
    )

pub returns-in_err-s : goal.returns-in_err-s
returns-in_err-s c =
    let a = c.args in
    let p = c.requires in
    let l = c.loop-k in
    let byte : get_or a.xs.now l.k 0 < 256 = omega (arith, c.type_inv.xs l.k) in
    let e = found-nothing _ (sym c.component.ensures ∙ c.in_err-s.was) in
    rw c.from_residual.ensures
    (apart a.f.no a.z.no a.xs.now a.z.small p.0 p.1 l.joined l.m l.v l.k l.invariant c.loop-k-test.true byte
    (subst (λ (d : ℕ). get_or a.xs.now l.k 0 / 7 ≡ asked_of d a.z.no → ⊥) c.digit.ensures (other-shape _ _ _ _ refl (omega arith) e)))

-- of the parameter's shape
it_is : (c : In_ok-s) → let a = c.args in let k = c.loop-k.k in
    (get_or a.xs.now k 0 / 7 ≡ asked_of (digit_of a.f.no (2 * k + 1)) a.z.no) × (c.in_ok-s.s ≡ get_or a.xs.now k 0 % 7)
it_is c =
    let a = c.args in
    let k = c.loop-k.k in
    let e = sym c.component.ensures ∙ c.in_ok-s.was in
    let q = same-shape _ _ _ c.in_ok-s.s (sym (found-it _ _ e)) (found-some _ _ e) in
    (q.0 ∙ ap (λ (d : ℕ). asked_of d a.z.no) c.digit.ensures, q.1)

pub digit-of-requires : goal.digit-of-requires
digit-of-requires c = let l = below (goal.at.digit-of-requires c).In-loop-k in omega arith

-- the component that is asked
of_is : (c : After-digit-of) → c.digit-of.result ≡ digit_of c.args.f.no (2 * c.loop-k.k + 2)
of_is c = c.digit-of.ensures ∙ ap (digit_of c.args.f.no) (omega arith)

of-small : (c : After-digit-of) → c.digit-of.result < 10
of-small c =
    let a = c.args in
    let p = c.requires in
    subst (λ (d : ℕ). d < 10) (sym (of_is c)) (component-small a.f.no a.z.no a.xs.now a.z.small p.0 p.1 c.loop-k.k c.loop-k-test.true)

-- it is T's
nine : (c : After-digit-of) → 9 ≤ c.digit-of.result → digit_of c.args.f.no (2 * c.loop-k.k + 2) ≡ 9
nine c h = let l = of-small c in sym (of_is c) ∙ omega arith

pub returns-in_err-join : goal.returns-in_err-join
returns-in_err-join c =
    let a = c.args in
    let p = c.requires in
    let l = c.loop-k in
    let at = goal.at.returns-in_err-join c in
    let q = it_is at.In_ok-s in
    rw c.from_residual-in_err-join.ensures
    (no_join a.f.no a.z.no a.xs.now a.z.small p.0 p.1 l.joined l.m l.v l.k l.invariant c.loop-k-test.true (omega (arith, c.type_inv.xs l.k)) q.0 (nine at.After-digit-of c.if-of-ge-OF_T.true)
    (λ t h. rw q.1 at (c.in_err-join.ensures t h)))

pub loop-k-preserved : goal.loop-k-preserved
loop-k-preserved c =
    let a = c.args in
    let p = c.requires in
    let l = c.loop-k in
    let at = goal.at.loop-k-preserved c in
    let q = it_is at.In_ok-s in
    let o = of_is at.After-digit-of in
    elim c.if-of-ge-OF_T.branch [
      | then-of-ge-OF_T+in_ok-join w ↦
          narrowed-as w.joined-is w.m-is w.v-is
          (next-T a.f.no a.z.no a.xs.now a.z.small p.0 p.1 l.joined l.m l.v l.k l.invariant c.loop-k-test.true (omega (arith, c.type_inv.xs l.k)) q.0 (nine at.After-digit-of w.if-of-ge-OF_T.true) _
          (λ t h. rw q.1 at (w.in_ok-join.ensures.1 t h)) w.in_ok-join.ensures.0)
      | else-of-ge-OF_T w ↦
          narrowed-as w.joined-is w.m-is w.v-is
          (next-other a.f.no a.z.no a.xs.now a.z.small p.0 p.1 l.joined l.m l.v l.k l.invariant c.loop-k-test.true (omega (arith, c.type_inv.xs l.k)) q.0 w.reached.result w.second_slot.result
          (λ t h. rw (o, q.1) at (w.reached.ensures t h))
          (λ i h. rw (o, q.1) at (w.second_slot.ensures i h)))
    ]

pub returns : goal.returns
returns c =
    let a = c.args in
    let p = c.requires in
    let l = c.loop-k in
    finish a.f.no a.z.no a.xs.now a.z.small p.0 p.1 l.joined l.m l.v l.k l.invariant c.loop-k-test.false c.allowed.result c.allowed.ensures
