-- `overload::result_of` meets its contract. Assumes nothing.
use Rattle.std.proofs.Common.{◌≡◌, ℕ, ◌*◌, ◌<◌, sym, ap, ◌∙◌, subst, arith, eq-eqb, ne_eqb}
use Rattle.overload.specs.inner.Code.{asked_of, digit_of}
use Rattle.overload.proofs.Resolving.{result-form, result-shape, result-component, result-is}
use Rattle.overload.proofs.result_of.Goals.{After-start-start}
use Rattle.overload.proofs.result_of.Goals as goal

pub start-start-requires : goal.start-start-requires
start-start-requires c =
    let a = c.args in
    let p = c.requires in
    let e = sym c.digit.ensures in (
      subst (λ (k : ℕ). k < 7) e (result-form a.f.no a.z.no a.z.small p.0),
      subst (λ (k : ℕ). asked_of k a.z.no < 13) e (result-shape a.f.no a.z.no a.z.small p.0),
    )

-- the first number of the result's shape
start_is : (c : After-start-start) → c.start-start.result ≡ 7 * asked_of (digit_of c.args.f.no 9) c.args.z.no
start_is c = c.start-start.ensures ∙ ap (λ (k : ℕ). 7 * asked_of k c.args.z.no) c.digit.ensures

small : (c : After-start-start) → c.start-start.result < 85
small c =
    let a = c.args in
    let p = c.requires in
    let e = start_is c in
    let l = result-shape a.f.no a.z.no a.z.small p.0 in
    omega arith

pub overflow_add-result : goal.overflow_add-result
overflow_add-result c = let l = small (goal.at.overflow_add-result c).After-start-start in let h = c.requires.1 in omega arith

pub returns-then-of-eq-OF_T : goal.returns-then-of-eq-OF_T
returns-then-of-eq-OF_T c =
    let a = c.args in
    let p = c.requires in
    let w = c.digit-of.ensures in
    rw (start_is (goal.at.returns-then-of-eq-OF_T c).After-start-start) (result-is a.f.no a.z.no a.z.small p.0 a.t a.i a.t p.1 (sym (rw (eq-eqb (digit_of a.f.no 10) 9 (sym w ∙ c.if-of-eq-OF_T.true)))))

pub overflow_add-result-2 : goal.overflow_add-result-2
overflow_add-result-2 c = let l = small (goal.at.overflow_add-result-2 c).After-start-start in let a = c.args in let p = c.requires in let w = c.digit-of.ensures in let n = c.if-of-eq-OF_T.false in let h = result-component a.f.no a.z.no a.z.small p.0 (λ e. n (w ∙ e)) in omega arith

pub returns : goal.returns
returns c =
    let a = c.args in
    let p = c.requires in
    let w = c.digit-of.ensures in
    let h = c.if-of-eq-OF_T.false in
    let l = result-component a.f.no a.z.no a.z.small p.0 (λ e. h (w ∙ e)) in
    rw (start_is (goal.at.returns c).After-start-start, w) (result-is a.f.no a.z.no a.z.small p.0 a.t a.i (digit_of a.f.no 10) (omega arith) (sym (rw (ne_eqb (digit_of a.f.no 10) 9 (λ e. h (w ∙ e))))))
