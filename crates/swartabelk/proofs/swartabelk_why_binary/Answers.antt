-- `swartabelk::swartabelk_why_binary` meets its contract: the reply fits and is told in numbers. Assumes nothing.
use Rattle.ops_ty.specs.Ops.{type_binary_op}
use Rattle.why.specs.Why.{binary_pieces}
use Rattle.swartabelk.proofs.Places.{type-binary-at}
use Rattle.swartabelk.proofs.Why.{why-fits, told-out}
use native.Mathlib.Omega.{arith}
use Rattle.swartabelk.proofs.swartabelk_why_binary.Goals as goal

pub spelled_of-requires : goal.spelled_of-requires
spelled_of-requires c =
    let a = c.args in
    why-fits c.word-n.result (omega (arith, c.word-n.ensures, c.ranges.used)) _ (type-binary-at a.words.now c.word-n.result c.word-o.result a.a a.b) _ _ _ _ c.why_binary-s.ensures.why_done c.why_binary-s.ensures.short

pub returns : goal.returns
returns c =
    let a = c.args in
    told-out c.word-n.ensures (λ i. (type_binary_op a.words.now (c.word-n.ensures i) (c.word-o.ensures i) a.a a.b).answer)
    (λ i. binary_pieces a.words.now (c.word-n.ensures i) (c.word-o.ensures i) a.a a.b) c.why_binary-s.ensures.why_done c.spelled_of.ensures
