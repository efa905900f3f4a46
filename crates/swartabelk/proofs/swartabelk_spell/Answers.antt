-- `swartabelk::swartabelk_spell` meets its contract: the length fits and is told in numbers. Assumes nothing.
use Rattle.swartabelk.proofs.Telling.{spelled_out}
use Rattle.swartabelk.proofs.Short.{spelled-fits}
use native.Mathlib.Omega.{arith}
use Rattle.swartabelk.proofs.swartabelk_spell.Goals as goal

pub spelled_of-requires : goal.spelled_of-requires
spelled_of-requires c = let a = c.args in spelled-fits a.words.now (λ i. omega (arith, c.type_inv.words i)) c.word-n.result (record { 0 = c.word.result }) a.out.now _ (omega (arith, c.word-n.ensures, c.ranges.used)) c.spell-s.ensures.reply

pub returns : goal.returns
returns c = spelled_out c.word-n.ensures c.word.ensures c.spell-s.ensures c.spelled_of.ensures
