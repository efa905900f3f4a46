-- `overload::out_of` meets its contract. Assumes nothing.
use Rattle.std.proofs.Common.{sym, ap, ◌∙◌, arith}
use Rattle.conv.specs.Types.Ty.{frexp, modf}
use Rattle.overload.specs.inner.Code.{family_of, out_of}
use Rattle.overload.proofs.Resolving.{wrap-digit, wrapped-bare, wrapped-frexp, wrapped-modf}
use Rattle.overload.proofs.out_of.Goals as goal

pub returns-in-0 : goal.returns-in-0
unfolding out_of
returns-in-0 c =
    let f = c.args.f.no in
    let r = c.result_of-x.ensures in
    r ∙ wrapped-bare _ (family_of f).wrap (sym (c.digit.ensures ∙ wrap-digit f) ∙ c.in-0.is)

pub returns-in-1 : goal.returns-in-1
unfolding out_of
returns-in-1 c =
    let f = c.args.f.no in
    let r = c.result_of-x.ensures in
    ap frexp r ∙ wrapped-frexp _ (family_of f).wrap (sym (c.digit.ensures ∙ wrap-digit f) ∙ c.in-1.is)

pub returns-in_default : goal.returns-in_default
unfolding out_of
returns-in_default c =
    let f = c.args.f.no in
    let r = c.result_of-x.ensures in
    let w = c.digit.ensures ∙ wrap-digit f in
    ap modf r ∙ wrapped-modf _ (family_of f).wrap (λ e. let q = w ∙ e in omega arith) (λ e. let q = w ∙ e in omega arith)
