-- `call_ty::call_at` meets its contract: the name's rule, or none. Assumes nothing.
use mathlib.Core.Path.{sym, ◌∙◌, ap}
use mathlib.Core.Bool.{Bool, false, ◌||◌}
use Rattle.answer.specs.Answer.{marked_by}
use Rattle.names.specs.Names.{Rule, Named}
use Rattle.names.specs.Names.Named.{rule}
use Rattle.names.specs.inner.Table.{numbered}
use Rattle.names.proofs.Rules.{said-rule, said-unknown}
use Rattle.table.proofs.Giving.{gave-marked}
use Rattle.ruled.proofs.Outcomes.{gave-as}
use Rattle.call_ty.specs.Calls.{by_rule, numbers, marks_of, types, runs_by}
use Rattle.call_ty.proofs.Ways.{gave-as-marked, gave-unmarked, by-unknown, by_runs, runs_by_lem}
use Rattle.call_ty.proofs.call_at.Goals as goal

pub returns-in-Some : goal.returns-in-Some
returns-in-Some c =
    let a = c.args in
    let w = a.words.now in
    let e = said-rule a.profile a.name.now _ (sym c.rule_of.ensures ∙ c.in-Some.is) in
    gave-marked
    (gave-as
    (ap (λ (r : Rule). by_rule a.place.0 w a.n (rule r false) (types w a.tplt.now) (types w (numbers a.args.now)) (marks_of a.args.now)) c.from.ensures
    ∙ by_runs a.place.0 w a.n (numbered c.in-Some.field-0.rule) _ _ (types w a.tplt.now) (types w (numbers a.args.now)) (marks_of a.args.now)
    ∙ ap (λ (k : Named). by_rule a.place.0 w a.n k (types w a.tplt.now) (types w (numbers a.args.now)) (marks_of a.args.now)) (sym e))
    c.by_rule-r.ensures)
    (c.marked.ensures
    ∙ ap (λ (m : Bool). marked_by m c.by_rule-r.result) (ap (λ (b : Bool). c.in-Some.field-0.running || b) c.any_running.ensures ∙ runs_by_lem _ _ (marks_of a.args.now) ∙ ap (λ (k : Named). runs_by k (marks_of a.args.now)) (sym e)))

pub returns-in-None : goal.returns-in-None
returns-in-None c =
    let a = c.args in
    let w = a.words.now in
    gave-as-marked
    (by-unknown a.place.0 w a.n (types w a.tplt.now) (types w (numbers a.args.now)) (marks_of a.args.now)
    ∙ ap (λ (k : Named). by_rule a.place.0 w a.n k (types w a.tplt.now) (types w (numbers a.args.now)) (marks_of a.args.now)) (sym (said-unknown a.profile a.name.now (sym c.rule_of.ensures ∙ c.in-None.is))))
    (gave-unmarked _ a.place.0 w a.n _ _ c.unmarked.ensures)
