-- `swartabelk::swartabelk_template` meets its contract: the answer of `type_template` fits and is told in numbers. Assumes nothing.
use Rattle.tplt.specs.Templates.{template_outcome}
use Rattle.swartabelk.proofs.Fitting.{template-fits, replied-const}
use native.Mathlib.Omega.{arith}
use Rattle.swartabelk.proofs.swartabelk_template.Goals as goal

pub const_reply-requires : goal.const_reply-requires
const_reply-requires c = template-fits _ c.word-n.result (omega (arith, c.word-n.ensures, c.ranges.used)) _ _ _ _ c.type_template-answer.ensures

pub returns : goal.returns
returns c = let a = c.args in
    replied-const (λ i. template_outcome a.words.now (c.word-n.ensures i) a.head.now a.args.now) c.type_template-answer.ensures c.const_reply.ensures
