-- `swartabelk::swartabelk_why_unary` meets its contract: the reply fits and is told in numbers. Assumes nothing.
use Rattle.ops_ty.specs.Ops.{type_unary_op}
use Rattle.why.specs.Why.{unary_pieces}
use Rattle.swartabelk.proofs.Places.{type-unary-at}
use Rattle.swartabelk.proofs.Why.{why-fits, told-out}
use native.Mathlib.Omega.{arith}
use Rattle.swartabelk.proofs.swartabelk_why_unary.Goals as goal

pub spelled_of-requires : goal.spelled_of-requires
spelled_of-requires c =
    let a = c.args in
    why-fits c.word-n.result (omega (arith, c.word-n.ensures, c.ranges.used)) _ (type-unary-at a.words.now c.word-n.result c.word-o.result a.a) _ _ _ _ c.why_unary-s.ensures.why_done c.why_unary-s.ensures.short

pub returns : goal.returns
returns c =
    let a = c.args in
    told-out c.word-n.ensures (λ i. (type_unary_op a.words.now (c.word-n.ensures i) (c.word-o.ensures i) a.a).answer)
    (λ i. unary_pieces a.words.now (c.word-n.ensures i) (c.word-o.ensures i) a.a) c.why_unary-s.ensures.why_done c.spelled_of.ensures
