-- `ops_ty::unary_at` meets its contract: each way out is one of the laws of Ways. Assumes nothing.
use Prim.Native.Nat.{ℕ, ◌<◌}
use mathlib.Core.Path.{◌≡◌, refl, sym, ◌∙◌, ap, subst}
use mathlib.Core.Logic.{inr}
use mathlib.Core.List.{[], ◌∷◌}
use Rattle.overload.specs.Rows.{judge_address, judge_indirection}
use Rattle.overload.specs.inner.Code.{code_of}
use Rattle.table.specs.Denote.{type_at}
use Rattle.table.proofs.FormedLaws.{formed-at}
use Rattle.held.specs.Held.{number_of, mark_of}
use Rattle.ruled.specs.Call.{operand_ty, judged_outcome, offends}
use Rattle.ruled.proofs.Outcomes.{gave-as, gave-refused}
use Rattle.ruled.proofs.Loaded.{by_number}
use Rattle.ops_ty.specs.Ops.{unary_ruling}
use Rattle.ops_ty.specs.inner.Turn.{judge_from}
use Rattle.ops_ty.proofs.Ways.{unary-offered, unary-unknown, unary-reference, unary-clash, unary-address, unary-indirection, unary-row}
use Rattle.ops_ty.proofs.unary_at.Goals.{After-code_at-x, After-is_offered}
use Rattle.ops_ty.proofs.unary_at.Goals as goal

pub returns-then-op-ge-UNARY_OPS : goal.returns-then-op-ge-UNARY_OPS
returns-then-op-ge-UNARY_OPS c =
    let a = c.args in
    gave-as (unary-unknown a.place.0 a.words.now a.n a.op (operand_ty a.words.now a.a) (mark_of a.a) c.if-op-ge-UNARY_OPS.true) (gave-refused _ _ a.words.now a.n c.refused.ensures)

-- the operand's number, and what it says of a reference
code_is : (c : After-code_at-x) → c.code_at-x.result ≡ code_of (operand_ty c.args.words.now c.args.a)
code_is c = c.code_at-x.ensures ∙ ap (λ (t : ℕ). code_of (type_at c.args.words.now t)) c.number-t.ensures

offers : (c : After-is_offered) → offends (unary_ruling c.args.op) (operand_ty c.args.words.now c.args.a ∷ []) ≡ c.is_offered.result
offers c =
    let a = c.args in
    unary-offered a.op (operand_ty a.words.now a.a) c.code_at-x.result (by_number a.words.now a.n c.requires.0 (number_of a.a) c.requires.1 c.code_at-x.result (code_is c.before))
    ∙ sym c.is_offered.ensures

pub returns-then-is_offered : goal.returns-then-is_offered
returns-then-is_offered c =
    let a = c.args in
    gave-as
    (unary-reference a.place.0 a.words.now a.n a.op (operand_ty a.words.now a.a) (mark_of a.a) c.if-op-ge-UNARY_OPS.false (offers (goal.at.returns-then-is_offered c).After-is_offered ∙ c.if-is_offered.true))
    (gave-refused _ _ a.words.now a.n c.refused-then-is_offered.ensures)

pub returns-then-clashes : goal.returns-then-clashes
returns-then-clashes c =
    let a = c.args in
    gave-as
    (unary-clash a.place.0 a.words.now a.n a.op (operand_ty a.words.now a.a) (mark_of a.a) c.if-op-ge-UNARY_OPS.false (offers (goal.at.returns-then-clashes c).After-is_offered ∙ c.if-is_offered.false) (sym c.clashes.ensures ∙ c.if-clashes.true))
    (gave-refused _ _ a.words.now a.n c.refused-then-clashes.ensures)

pub returns-then-op-eq-ADDRESS_OF : goal.returns-then-op-eq-ADDRESS_OF
unfolding judge_from
returns-then-op-eq-ADDRESS_OF c =
    let a = c.args in
    gave-as
    (ap (λ (t : ℕ). judged_outcome a.place.0 a.words.now a.n (judge_address (type_at a.words.now t))) c.number-t.ensures
    ∙ unary-address a.place.0 a.words.now a.n a.op (operand_ty a.words.now a.a) (mark_of a.a) c.if-op-ge-UNARY_OPS.false (offers (goal.at.returns-then-op-eq-ADDRESS_OF c).After-is_offered ∙ c.if-is_offered.false) (sym c.clashes.ensures ∙ c.if-clashes.false) c.if-op-eq-ADDRESS_OF.true)
    c.type_turned.ensures

pub type_turned-requires-then-op-eq-INDIRECTION : goal.type_turned-requires-then-op-eq-INDIRECTION
type_turned-requires-then-op-eq-INDIRECTION c =
    (c.requires.0, subst (λ (k : ℕ). k < c.args.n) (sym c.number-t.ensures) c.requires.1, inr (refl, refl))

pub returns-then-op-eq-INDIRECTION : goal.returns-then-op-eq-INDIRECTION
unfolding judge_from
returns-then-op-eq-INDIRECTION c =
    let a = c.args in
    gave-as
    (ap (λ (t : ℕ). judged_outcome a.place.0 a.words.now a.n (judge_indirection (type_at a.words.now t))) c.number-t.ensures
    ∙ unary-indirection a.place.0 a.words.now a.n a.op (operand_ty a.words.now a.a) (mark_of a.a) c.if-op-ge-UNARY_OPS.false (offers (goal.at.returns-then-op-eq-INDIRECTION c).After-is_offered ∙ c.if-is_offered.false) (sym c.clashes.ensures ∙ c.if-clashes.false) c.if-op-eq-INDIRECTION.true)
    c.type_turned-then-op-eq-INDIRECTION.ensures

pub returns : goal.returns
returns c =
    let a = c.args in
    gave-as
    (unary-row a.place.0 a.words.now a.n a.op (operand_ty a.words.now a.a) (mark_of a.a) c.if-op-ge-UNARY_OPS.false (offers (goal.at.returns c).After-is_offered ∙ c.if-is_offered.false) (sym c.clashes.ensures ∙ c.if-clashes.false)
    c.if-op-eq-ADDRESS_OF.false c.if-op-eq-INDIRECTION.false (formed-at a.words.now a.n c.requires.0 (number_of a.a) c.requires.1) _ (code_is (goal.at.returns c).After-code_at-x) _ c.running.ensures)
    c.judge_codes.ensures
