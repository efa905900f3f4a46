-- `step::step` meets its contract: each item by the function of its kind. Assumes nothing.
use Rattle.step.specs.Effect.{effect_of}
use Rattle.step.specs.inner.Code.{operator_effect, effect_by, Counted}
use Rattle.answer.specs.declared.Reason.TheVariants.{Framing}
use Rattle.step.proofs.Effects.{refusing}
use Rattle.frame.proofs.Parts.{name-bytes}
use mathlib.Core.Path.{refl}
use Rattle.step.proofs.step.Goals as goal

pub returns-in-Push : goal.returns-in-Push
unfolding effect_of
returns-in-Push c = rw c.in-Push.is c.push.ensures

pub returns-in-Unary : goal.returns-in-Unary
unfolding effect_of operator_effect
returns-in-Unary c = rw c.in-Unary.is (rw c.has_marks-keeps.ensures at c.operator.ensures)

pub returns-in-Binary : goal.returns-in-Binary
unfolding effect_of operator_effect
returns-in-Binary c = rw c.in-Binary.is (rw c.has_marks-keeps.ensures at c.operator-in-Binary.ensures)

pub returns-in-Call : goal.returns-in-Call
unfolding effect_of
returns-in-Call c = let i = c.args.items in
    let l = rw c.in-Call.is at c.requires.1 in
    rw c.in-Call.is (rw (c.has_marks-keeps.ensures, name-bytes i.version i.bytes.now c.in-Call.name l.0 c.name-name.ensures.bytes) at c.call.ensures)

pub returns-in-CallTemplate : goal.returns-in-CallTemplate
unfolding effect_of
returns-in-CallTemplate c = let i = c.args.items in
    let l = rw c.in-CallTemplate.is at c.requires.1 in
    rw c.in-CallTemplate.is (rw (c.has_marks-keeps.ensures, name-bytes i.version i.bytes.now c.in-CallTemplate.name l.0 c.name-name-in-CallTemplate.ensures.bytes) at c.call-in-CallTemplate.ensures)

pub returns-in-Take : goal.returns-in-Take
unfolding effect_of
returns-in-Take c = rw c.in-Take.is (rw c.entry.ensures at c.take_in.ensures)

pub returns-in-End : goal.returns-in-End
unfolding effect_of effect_by Counted
returns-in-End c = rw c.in-End.is (record { effect = refl; counted = c.requires.0.fits })

pub returns-in-Bad : goal.returns-in-Bad
unfolding effect_of
returns-in-Bad c = let a = c.args in rw c.in-Bad.is (refusing a.at a.count a.stack.now a.used a.table.now Framing c.stopped.ensures refl)
