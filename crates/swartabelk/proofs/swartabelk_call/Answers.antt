-- `swartabelk::swartabelk_call` meets its contract: the answer of `type_builtin_fn` fits and is told in numbers. Assumes nothing.
use Rattle.call_ty.specs.Calls.{type_builtin_fn}
use Rattle.swartabelk.proofs.Fitting.{call_fits, replied}
use mathlib.Core.Path.{refl}
use native.Mathlib.Omega.{arith}
use Rattle.swartabelk.proofs.swartabelk_call.Goals as goal

pub reply_of-requires : goal.reply_of-requires
reply_of-requires c = call_fits _ c.word-n.result (omega (arith, c.word-n.ensures, c.ranges.used)) _ _ _ _ _ _ c.type_builtin_fn-typed.ensures

pub returns : goal.returns
returns c = let a = c.args in
    replied (λ i. type_builtin_fn a.profile a.words.now (c.word-n.ensures i) a.name.now a.tplt.now a.args.now) refl c.type_builtin_fn-typed.ensures c.reply_of.ensures
