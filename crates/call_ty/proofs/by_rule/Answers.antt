-- `call_ty::by_rule` meets its contract: 5, 7, 3, 14 and then the rule, each way out a law of Ways. Assumes nothing.
use Prim.Native.Nat.{ℕ}
use mathlib.Core.Path.{◌≡◌, sym, ◌∙◌, ap}
use mathlib.Core.Bool.{false}
use mathlib.Core.List.{List}
use native.Mathlib.Omega.{arith}
use lib.ListN.{length, take, length-map}
use lib.Seq.{length-take-le}
use Rattle.held.specs.Held.{number_of}
use Rattle.names.specs.inner.Table.{meant}
use Rattle.table.specs.Denote.{type_at}
use Rattle.ruled.proofs.Outcomes.{gave-as, gave-refused}
use Rattle.call_ty.specs.Calls.{numbers, marks_of, types}
use Rattle.call_ty.proofs.Ways.{by-template, by_count, by-reference, by-clash, by_call, at_most}
use Rattle.call_ty.proofs.by_rule.Goals as goal

-- as many types as operands
counted : (vs w : List ℕ) → length (types w (numbers vs)) ≡ length vs
counted vs w = length-map (numbers vs) (type_at w) ∙ length-map vs number_of

pub returns-then-not-template_right : goal.returns-then-not-template_right
returns-then-not-template_right c =
    let a = c.args in
    let w = a.words.now in
    gave-as (by-template a.place.0 w a.n (meant a.rule) false (types w a.tplt.now) (types w (numbers a.args.now)) (marks_of a.args.now) (sym c.template_right.ensures ∙ c.if-not-template_right.true)) (gave-refused _ _ w a.n c.refused.ensures)

pub returns-then-k-operands_of : goal.returns-then-k-operands_of
returns-then-k-operands_of c =
    let a = c.args in
    let w = a.words.now in
    gave-as
    (by_count a.place.0 w a.n (meant a.rule) false (types w a.tplt.now) (types w (numbers a.args.now)) (marks_of a.args.now) (sym c.template_right.ensures ∙ c.if-not-template_right.false)
    (λ e. c.if-k-operands_of.true (sym (counted a.args.now w) ∙ e ∙ sym c.operands_of.ensures)))
    (gave-refused _ _ w a.n c.refused-then-k-operands_of.ensures)

pub load-requires : goal.load-requires
load-requires c =
    let k = c.if-k-operands_of.false in
    let q = c.operands_of.ensures in
    let m = at_most c.args.rule in
    (omega arith, (c.requires.0, c.requires.2, omega arith))

pub returns-in_default : goal.returns-in_default
returns-in_default c =
    let a = c.args in
    let w = a.words.now in
    gave-as
    (by-reference a.place.0 w a.n (meant a.rule) false (types w a.tplt.now) (types w (numbers a.args.now)) (marks_of a.args.now) (sym c.template_right.ensures ∙ c.if-not-template_right.false)
    (counted a.args.now w ∙ c.if-k-operands_of.false ∙ c.operands_of.ensures) c.in_default.ensures)
    (gave-refused _ _ w a.n c.refused-in_default.ensures)

pub any_clashes-requires : goal.any_clashes-requires
any_clashes-requires c = (c.requires.0, c.requires.2)

pub returns-then-any_clashes : goal.returns-then-any_clashes
returns-then-any_clashes c =
    let a = c.args in
    let w = a.words.now in
    gave-as
    (by-clash a.place.0 w a.n (meant a.rule) false (types w a.tplt.now) (types w (numbers a.args.now)) (marks_of a.args.now) (sym c.template_right.ensures ∙ c.if-not-template_right.false)
    (counted a.args.now w ∙ c.if-k-operands_of.false ∙ c.operands_of.ensures) c.in-Some.ensures.0 (sym c.any_clashes.ensures ∙ c.if-any_clashes.true))
    (gave-refused _ _ w a.n c.refused-then-any_clashes.ensures)

pub slice_bounds-codes-end : goal.slice_bounds-codes-end
slice_bounds-codes-end c =
    let k = c.if-k-operands_of.false in
    let q = c.operands_of.ensures in
    let m = at_most c.args.rule in
    omega arith

pub slice_bounds-given-end : goal.slice_bounds-given-end
slice_bounds-given-end c =
    let k = c.if-k-operands_of.false in
    let q = c.operands_of.ensures in
    let m = at_most c.args.rule in
    sym (length-take-le (length c.args.args.now) c.in-Some.codes (omega arith))

pub given-requires : goal.given-requires
given-requires c =
    let a = c.args in
    (c.requires.0, c.requires.1, c.requires.2, sym c.template_right.ensures ∙ c.if-not-template_right.false, c.if-k-operands_of.false ∙ c.operands_of.ensures, ap (λ (k : ℕ). take k c.in-Some.codes) (sym (counted a.args.now a.words.now)) ∙ c.in-Some.ensures.1, sym c.any_clashes.ensures ∙ c.if-any_clashes.false)

pub returns : goal.returns
returns c =
    let a = c.args in
    let w = a.words.now in
    gave-as
    (by_call a.place.0 w a.n (meant a.rule) false (types w a.tplt.now) (types w (numbers a.args.now)) (marks_of a.args.now) (sym c.template_right.ensures ∙ c.if-not-template_right.false)
    (counted a.args.now w ∙ c.if-k-operands_of.false ∙ c.operands_of.ensures) c.in-Some.ensures.0 (sym c.any_clashes.ensures ∙ c.if-any_clashes.false))
    c.given.ensures
