-- `frame::payload` meets its contract: the kind, and what was read of the payload, pick the answer in the definition (`Reading`). Assumes nothing.
use mathlib.Core.Path.{sym, ◌∙◌}
use native.Mathlib.Omega.{arith}
use Rattle.frame.specs.declared.Item.TheVariants.{Unary, Binary, Call, CallTemplate}
use Rattle.frame.specs.declared.Part.{Part}
use lib.ListN.{get_or}
use Rattle.frame.specs.Frame.{type_no, payload_item}
use Rattle.frame.proofs.Reading.{no-kind, no-number, a-number, no-name, a-name}
use Rattle.frame.proofs.payload.Goals as goal

pub returns-in-1 : goal.returns-in-1
unfolding payload_item
returns-in-1 c = let a = c.args in rw c.in-1.is (c.push.ensures a.at.0)

pub returns-in_err-number-in-2 : goal.returns-in_err-number-in-2
unfolding payload_item
returns-in_err-number-in-2 c = let a = c.args in rw (c.in-2.is, c.from_residual.ensures) (no-number a.at.0 a.p.now Unary (sym c.in_err-number-in-2.was ∙ c.number.ensures))

pub returns-in_ok-number-in-2 : goal.returns-in_ok-number-in-2
unfolding payload_item
returns-in_ok-number-in-2 c = let a = c.args in rw c.in-2.is (a-number a.at.0 a.p.now Unary c.in_ok-number-in-2.field-0 (sym c.in_ok-number-in-2.was ∙ c.number.ensures))

pub returns-in_err-number-in-3 : goal.returns-in_err-number-in-3
unfolding payload_item
returns-in_err-number-in-3 c = let a = c.args in rw (c.in-3.is, c.from_residual-in_err-number-in-3.ensures) (no-number a.at.0 a.p.now Binary (sym c.in_err-number-in-3.was ∙ c.number-in-3.ensures))

pub returns-in_ok-number-in-3 : goal.returns-in_ok-number-in-3
unfolding payload_item
returns-in_ok-number-in-3 c = let a = c.args in rw c.in-3.is (a-number a.at.0 a.p.now Binary c.in_ok-number-in-3.field-0 (sym c.in_ok-number-in-3.was ∙ c.number-in-3.ensures))

pub returns-in_err-name-in-4 : goal.returns-in_err-name-in-4
unfolding payload_item
returns-in_err-name-in-4 c = let a = c.args in rw (c.in-4.is, c.from_residual-in_err-name-in-4.ensures) (no-name a.at.0 a.p.now 1 (λ (n : Part). Call (get_or a.p.now 0 0) n) (sym c.in_err-name-in-4.was ∙ c.name.ensures))

pub returns-in_ok-name-in-4 : goal.returns-in_ok-name-in-4
unfolding payload_item
returns-in_ok-name-in-4 c = let a = c.args in rw c.in-4.is (a-name a.at.0 a.p.now 1 (λ (n : Part). Call (get_or a.p.now 0 0) n) c.in_ok-name-in-4.name (sym c.in_ok-name-in-4.was ∙ c.name.ensures))

pub returns-in_err-name-in-5 : goal.returns-in_err-name-in-5
unfolding payload_item
returns-in_err-name-in-5 c = let a = c.args in rw (c.in-5.is, c.from_residual-in_err-name-in-5.ensures) (no-name a.at.0 a.p.now 2 (λ (n : Part). CallTemplate (type_no (get_or a.p.now 0 0)) (get_or a.p.now 1 0) n) (sym c.in_err-name-in-5.was ∙ c.name-in-5.ensures))

pub returns-in_ok-name-in-5 : goal.returns-in_ok-name-in-5
unfolding payload_item
returns-in_ok-name-in-5 c = let a = c.args in rw (c.in-5.is, c.wide.ensures) (a-name a.at.0 a.p.now 2 (λ (n : Part). CallTemplate (type_no (get_or a.p.now 0 0)) (get_or a.p.now 1 0) n) c.in_ok-name-in-5.name (sym c.in_ok-name-in-5.was ∙ c.name-in-5.ensures))

pub returns-in-6 : goal.returns-in-6
unfolding payload_item
returns-in-6 c = let a = c.args in rw c.in-6.is (c.take.ensures a.at.0)

pub returns-in_default : goal.returns-in_default
returns-in_default c = let a = c.args in
    no-kind a.at.0 a.p.now a.marks a.kind (λ e. omega (arith, e)) (λ e. omega (arith, e)) (λ e. omega (arith, e)) (λ e. omega (arith, e)) (λ e. omega (arith, e)) (λ e. omega (arith, e))
