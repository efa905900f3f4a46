-- `tplt::param::arguments_of` meets its contract: by the length of the list, and the laws of its arguments. Assumes nothing.
use mathlib.Core.Path.{sym, ◌∙◌, ap}
use native.Mathlib.Omega.{arith}
use Rattle.tplt.specs.Params.{is_typed, alone, paired}
use Rattle.tplt.specs.inner.Steps.{param_at}
use Rattle.tplt.proofs.ParamLaws.{list-one, list-two, list-other, list-untyped, alone-other, typed-other, two_typed, two-literal}
use borrow.Enum.Refused.{opened}
use Rattle.tplt.proofs.param.arguments_of.Goals as goal

pub returns-then-count-lt2 : goal.returns-then-count-lt2
returns-then-count-lt2 c = let a = c.args in sym (list-other a.n a.args.now (λ e. omega arith) (λ e. omega arith))

pub returns-in_default : goal.returns-in_default
returns-in_default c = let a = c.args in sym (list-untyped a.n a.args.now (ap alone (sym c.param_at-first.ensures) ∙ alone-other c.param_at-first.result (opened c.in_default.in_default-own.keys2)))

pub returns-then-count-eq2 : goal.returns-then-count-eq2
returns-then-count-eq2 c = let a = c.args in sym (list-one a.n a.args.now c.if-count-eq2.true ∙ ap alone (sym c.param_at-first.ensures ∙ c.in-Typed.is))

pub returns-then-count-ne4 : goal.returns-then-count-ne4
returns-then-count-ne4 c = let a = c.args in sym (list-other a.n a.args.now c.if-count-eq2.false c.if-count-ne4.true)

pub returns-in-Typed-second : goal.returns-in-Typed-second
returns-in-Typed-second c = let a = c.args in
    sym (list-two a.n a.args.now c.if-count-ne4.false ∙ ap (paired (param_at a.n a.args.now 0)) (sym c.param_at-second.ensures) ∙ two_typed (param_at a.n a.args.now 0) c.param_at-second.result (ap is_typed c.in-Typed-second.is))

pub returns-in-NoType : goal.returns-in-NoType
returns-in-NoType c = let a = c.args in
    sym (list-two a.n a.args.now c.if-count-ne4.false ∙ ap (paired (param_at a.n a.args.now 0)) (sym c.param_at-second.ensures) ∙ two_typed (param_at a.n a.args.now 0) c.param_at-second.result (ap is_typed c.in-NoType.is))

pub returns-in_default-second : goal.returns-in_default-second
returns-in_default-second c = let a = c.args in
    let p = sym c.param_at-first.ensures ∙ c.in-Typed.is in
    sym (list-two a.n a.args.now c.if-count-ne4.false ∙ (λ i. paired (p i) (sym c.param_at-second.ensures i)) ∙ two-literal _ _ (sym (typed-other c.param_at-second.result (opened c.in_default-second.in_default-second-own.keys3))))
