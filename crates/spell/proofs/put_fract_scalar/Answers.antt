-- `spell::put_fract_scalar` meets its contract, by the one scalar that has another name there. Assumes nothing.
use Rattle.spell.proofs.Heads.{fract-abstract, fract-other}
use Rattle.spell.proofs.put_fract_scalar.Goals as goal

pub returns-then-s-eq-ABSTRACT_FLOAT : goal.returns-then-s-eq-ABSTRACT_FLOAT
returns-then-s-eq-ABSTRACT_FLOAT c = rw (fract-abstract c.args.s c.if-s-eq-ABSTRACT_FLOAT.true) c.put_text.ensures

pub returns : goal.returns
returns c = rw (fract-other c.args.s c.if-s-eq-ABSTRACT_FLOAT.false) c.put_text-2.ensures
