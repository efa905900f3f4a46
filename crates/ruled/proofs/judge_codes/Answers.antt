-- `ruled::judge_codes` meets its contract: the two judgments, each with its outcome. Assumes nothing.
use mathlib.Core.Path.{sym, ◌∙◌, ap}
use mathlib.Core.List.{map}
use Rattle.overload.specs.inner.Code.{operand, kept, out_of, judged_of}
use Rattle.overload.proofs.Results.{gives-formed}
use Rattle.ruled.proofs.Outcomes.{gave-as, gave-refused}
use Rattle.ruled.specs.Call.{judged_outcome}
use Rattle.ruled.proofs.judge_codes.Goals as goal

pub enter_out-requires : goal.enter_out-requires
unfolding judged_of
enter_out-requires c =
    let a = c.args in
    let e = sym c.resolve.ensures ∙ ap judged_of c.in-Some.is in
    let f = gives-formed a.row (kept a.running) (map operand a.codes.now) (out_of c.in-Some.out) e in
    (c.requires, f.0, f.1)

pub returns-in-Some : goal.returns-in-Some
unfolding judged_of judged_outcome
returns-in-Some c =
    let a = c.args in
    let e = ap judged_of (sym c.in-Some.is) ∙ c.resolve.ensures in
    gave-as (ap (judged_outcome a.place.0 a.words.now a.n) e) c.enter_out.ensures

pub returns-in-None : goal.returns-in-None
unfolding judged_of judged_outcome
returns-in-None c =
    let a = c.args in
    let e = ap judged_of (sym c.in-None.is) ∙ c.resolve.ensures in
    gave-as (ap (judged_outcome a.place.0 a.words.now a.n) e) (gave-refused _ _ a.words.now a.n c.refused.ensures)
