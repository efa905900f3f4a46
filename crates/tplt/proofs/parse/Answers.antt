-- `tplt::parse` meets its contract: by the cases of the head. Assumes nothing.
use Rattle.std.proofs.Common.{◌≡◌, sym, ap, ◌∙◌, Option, ok_or}
use Rattle.std.proofs.lemmas.Result.{err_from_is_err_and}
use Rattle.answer.specs.declared.Reason.TheVariants.{Unknown}
use Rattle.tplt.specs.declared.head.Head.{Head}
use Rattle.tplt.specs.Templates.{parsed_of}
use Rattle.tplt.proofs.parse.Goals as goal

pub returns-in-Vector : goal.returns-in-Vector
unfolding parsed_of
returns-in-Vector c = rw (c.in_ok-k.ensures.ok_part, c.in-Vector.is) c.parse.ensures

pub returns-in-Matrix : goal.returns-in-Matrix
unfolding parsed_of
returns-in-Matrix c = rw (c.in_ok-k.ensures.ok_part, c.in-Matrix.is) c.parse-in-Matrix.ensures

pub returns-in-Atomic : goal.returns-in-Atomic
unfolding parsed_of
returns-in-Atomic c = rw (c.in_ok-k.ensures.ok_part, c.in-Atomic.is) c.parse-in-Atomic.ensures

pub returns-in-Array : goal.returns-in-Array
unfolding parsed_of
returns-in-Array c = rw (c.in_ok-k.ensures.ok_part, c.in-Array.is) c.parse-in-Array.ensures

pub returns-in_err-k : goal.returns-in_err-k
unfolding parsed_of
returns-in_err-k c =
    let p = err_from_is_err_and c.from_residual.result c.from_residual.ensures.1 in
    let e = c.in_err-k.ensures in
    let v = e.value ∙ ap (λ (x : Option Head). ok_or x Unknown) e.ok_part in
    let q : c.in_err-k.field-0.0 ≡ Unknown = cc in
    rw (p.1, p.2, q) (sym (ap (λ (x : Option Head). parsed_of c.args.words.now x c.args.a) e.ok_part))
