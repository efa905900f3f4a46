-- `spell::put_dec` meets its contract: a word's number is put. Assumes nothing.
use Rattle.spell.proofs.put_dec.Goals as goal

pub returns : goal.returns
returns c = rw c.word.ensures at c.put_number.ensures
