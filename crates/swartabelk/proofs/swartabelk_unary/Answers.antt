-- `swartabelk::swartabelk_unary` meets its contract: the answer of `type_unary_op` fits and is told in numbers. Assumes nothing.
use Rattle.ops_ty.specs.Ops.{type_unary_op}
use Rattle.swartabelk.proofs.Fitting.{unary-fits, replied}
use mathlib.Core.Path.{refl}
use native.Mathlib.Omega.{arith}
use Rattle.swartabelk.proofs.swartabelk_unary.Goals as goal

pub reply_of-requires : goal.reply_of-requires
reply_of-requires c = unary-fits _ c.word-n.result (omega (arith, c.word-n.ensures, c.ranges.used)) _ _ _ _ c.type_unary_op-typed.ensures

pub returns : goal.returns
returns c = let a = c.args in
    replied (λ i. type_unary_op a.words.now (c.word-n.ensures i) (c.word-o.ensures i) a.a) refl c.type_unary_op-typed.ensures c.reply_of.ensures
