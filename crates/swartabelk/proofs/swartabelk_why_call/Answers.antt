-- `swartabelk::swartabelk_why_call` meets its contract: the reply fits and is told in numbers. Assumes nothing.
use Rattle.call_ty.specs.Calls.{type_builtin_fn}
use Rattle.why.specs.Why.{call_pieces}
use Rattle.swartabelk.proofs.Places.{type-builtin-at}
use Rattle.swartabelk.proofs.Why.{why-fits, told-out}
use native.Mathlib.Omega.{arith}
use Rattle.swartabelk.proofs.swartabelk_why_call.Goals as goal

pub spelled_of-requires : goal.spelled_of-requires
spelled_of-requires c =
    let a = c.args in
    why-fits c.word-n.result (omega (arith, c.word-n.ensures, c.ranges.used)) _ (type-builtin-at a.words.now c.word-n.result a.profile a.name.now a.tplt.now a.args.now) _ _ _ _ c.why_call-s.ensures.why_done c.why_call-s.ensures.short

pub returns : goal.returns
returns c =
    let a = c.args in
    told-out c.word-n.ensures (λ i. (type_builtin_fn a.profile a.words.now (c.word-n.ensures i) a.name.now a.tplt.now a.args.now).answer)
    (λ i. call_pieces a.profile a.words.now (c.word-n.ensures i) a.name.now a.tplt.now a.args.now) c.why_call-s.ensures.why_done c.spelled_of.ensures
