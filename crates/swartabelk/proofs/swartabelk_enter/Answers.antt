-- `swartabelk::swartabelk_enter` meets its contract: the answer of `enter_type` fits and is told in numbers. Assumes nothing.
use Rattle.table.specs.Placing.{enter_type}
use Rattle.swartabelk.proofs.Fitting.{enter-fits, replied-const}
use native.Mathlib.Omega.{arith}
use Rattle.swartabelk.proofs.swartabelk_enter.Goals as goal

pub const_reply-requires : goal.const_reply-requires
const_reply-requires c = enter-fits _ c.word-n.result (omega (arith, c.word-n.ensures, c.ranges.used)) _ _ _ c.enter_type-answer.ensures

pub returns : goal.returns
returns c = let a = c.args in
    replied-const (λ i. enter_type a.words.now (c.word-n.ensures i) (record { kind = a.kind; p = a.p; q = a.q; elem = a.elem })) c.enter_type-answer.ensures c.const_reply.ensures
