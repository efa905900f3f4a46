-- `ops_ty::binary_at` meets its contract: each way out is one of the laws of Ways. Assumes nothing.
use Prim.Native.Nat.{ℕ, ◌<◌}
use mathlib.Core.Path.{◌≡◌, refl, sym, ◌∙◌, ap, ap₂}
use mathlib.Core.Bool.{Bool, ◌||◌}
use borrow.Author.Tests.{ltb-true, ltb-false}
use Rattle.conv.specs.Types.{abstract_ty}
use Rattle.conv.proofs.Finite.{table}
use Rattle.conv.specs.Rank.{both}
use Rattle.overload.specs.inner.Code.{code_of}
use Rattle.table.specs.Denote.{type_at}
use Rattle.table.proofs.FormedLaws.{formed-at}
use Rattle.held.specs.Held.{number_of, mark_of}
use Rattle.ruled.specs.Call.{operand_ty}
use Rattle.ruled.proofs.Outcomes.{gave-as, gave-refused}
use Rattle.ruled.proofs.Loaded.{offered, not-offered}
use Rattle.ops_ty.specs.Ops.{binary_row}
use Rattle.std.proofs.lemmas.List.{get_or_read_under}
use Rattle.ops_ty.specs.declared.TheConstants.{BINARY_ROW}
use Rattle.ops_ty.proofs.Ways.{binary-unknown, binary-left, binary-right, binary-clash, binary-row}
use Rattle.ops_ty.proofs.binary_at.Goals.{In-Some, After-clashes-2, After-code_at-x, After-code_at-y}
use Rattle.ops_ty.proofs.binary_at.Goals as goal

pub returns-in_default : goal.returns-in_default
returns-in_default c =
    let a = c.args in
    gave-as (binary-unknown a.place.0 a.words.now a.n a.op (operand_ty a.words.now a.a) (operand_ty a.words.now a.b) (mark_of a.a) (mark_of a.b) (ltb-false a.op 18 (sym c.in_default.ensures.lookup.0))) (gave-refused _ _ a.words.now a.n c.refused.ensures)

-- the operator has a row
under : (c : In-Some) → c.args.op < 18
under c = ltb-true c.args.op 18 (sym c.in-Some.ensures.lookup.0)

row_is : (c : In-Some) → c.in-Some.row.now ≡ (binary_row c.args.op).number
unfolding both binary_row
row_is c = get_or_read_under BINARY_ROW c.args.op 18 c.in-Some.row.now 0 c.in-Some.ensures.lookup.1 (under c) refl ∙ table (λ op. (binary_row op).number) 18 BINARY_ROW tt c.args.op (under c)

-- the operands' numbers
left_is : (c : After-code_at-x) → c.code_at-x.result ≡ code_of (operand_ty c.args.words.now c.args.a)
left_is c = c.code_at-x.ensures ∙ ap (λ (t : ℕ). code_of (type_at c.args.words.now t)) c.number.ensures

pub returns-then-x-eq-REFERENCE : goal.returns-then-x-eq-REFERENCE
returns-then-x-eq-REFERENCE c =
    let a = c.args in
    gave-as
    (binary-left a.place.0 a.words.now a.n a.op (operand_ty a.words.now a.a) (operand_ty a.words.now a.b) (mark_of a.a) (mark_of a.b) (under (goal.at.returns-then-x-eq-REFERENCE c).In-Some)
    (offered a.words.now a.n c.requires.0 (number_of a.a) c.requires.1 _ (left_is (goal.at.returns-then-x-eq-REFERENCE c).After-code_at-x) c.if-x-eq-REFERENCE.true))
    (gave-refused _ _ a.words.now a.n c.refused-then-x-eq-REFERENCE.ensures)

right_is : (c : After-code_at-y) → c.code_at-y.result ≡ code_of (operand_ty c.args.words.now c.args.b)
right_is c = c.code_at-y.ensures ∙ ap (λ (t : ℕ). code_of (type_at c.args.words.now t)) c.number-2.ensures

pub returns-then-y-eq-REFERENCE : goal.returns-then-y-eq-REFERENCE
returns-then-y-eq-REFERENCE c =
    let a = c.args in
    gave-as
    (binary-right a.place.0 a.words.now a.n a.op (operand_ty a.words.now a.a) (operand_ty a.words.now a.b) (mark_of a.a) (mark_of a.b) (under (goal.at.returns-then-y-eq-REFERENCE c).In-Some)
    (not-offered a.words.now a.n c.requires.0 (number_of a.a) c.requires.1 _ (left_is (goal.at.returns-then-y-eq-REFERENCE c).After-code_at-x) c.if-x-eq-REFERENCE.false)
    (offered a.words.now a.n c.requires.0 (number_of a.b) c.requires.2 _ (right_is (goal.at.returns-then-y-eq-REFERENCE c).After-code_at-y) c.if-y-eq-REFERENCE.true))
    (gave-refused _ _ a.words.now a.n c.refused-then-y-eq-REFERENCE.ensures)

-- whether one of them is running and abstract
clash : (c : After-clashes-2) → (c.clashes.result || c.clashes-2.result) ≡ (both (mark_of c.args.a) (abstract_ty (operand_ty c.args.words.now c.args.a)) || both (mark_of c.args.b) (abstract_ty (operand_ty c.args.words.now c.args.b)))
clash c = ap₂ (λ (x y : Bool). x || y) c.clashes.ensures c.clashes-2.ensures

pub returns-then-clashes : goal.returns-then-clashes
returns-then-clashes c =
    let a = c.args in
    gave-as
    (binary-clash a.place.0 a.words.now a.n a.op (operand_ty a.words.now a.a) (operand_ty a.words.now a.b) (mark_of a.a) (mark_of a.b) (under (goal.at.returns-then-clashes c).In-Some)
    (not-offered a.words.now a.n c.requires.0 (number_of a.a) c.requires.1 _ (left_is (goal.at.returns-then-clashes c).After-code_at-x) c.if-x-eq-REFERENCE.false)
    (not-offered a.words.now a.n c.requires.0 (number_of a.b) c.requires.2 _ (right_is (goal.at.returns-then-clashes c).After-code_at-y) c.if-y-eq-REFERENCE.false)
    (sym (clash (goal.at.returns-then-clashes c).After-clashes-2) ∙ c.if-clashes.true))
    (gave-refused _ _ a.words.now a.n c.refused-then-clashes.ensures)

pub returns : goal.returns
returns c =
    let a = c.args in
    gave-as
    (binary-row a.place.0 a.words.now a.n a.op (operand_ty a.words.now a.a) (operand_ty a.words.now a.b) (mark_of a.a) (mark_of a.b) (under (goal.at.returns c).In-Some)
    (not-offered a.words.now a.n c.requires.0 (number_of a.a) c.requires.1 _ (left_is (goal.at.returns c).After-code_at-x) c.if-x-eq-REFERENCE.false)
    (not-offered a.words.now a.n c.requires.0 (number_of a.b) c.requires.2 _ (right_is (goal.at.returns c).After-code_at-y) c.if-y-eq-REFERENCE.false)
    (sym (clash (goal.at.returns c).After-clashes-2) ∙ c.if-clashes.false)
    (formed-at a.words.now a.n c.requires.0 (number_of a.a) c.requires.1) (formed-at a.words.now a.n c.requires.0 (number_of a.b) c.requires.2)
    _ _ _ (row_is (goal.at.returns c).In-Some) (left_is (goal.at.returns c).After-code_at-x) (right_is (goal.at.returns c).After-code_at-y) _ (ap₂ (λ (x y : Bool). x || y) c.running.ensures c.running-2.ensures))
    c.judge_codes.ensures
