-- `tplt::enter_parsed` meets its contract: the entry of a template may be taken and stands for its type. Assumes nothing.
use Rattle.tplt.proofs.TemplateLaws.{word_below, entered-outcome}
use Rattle.tplt.proofs.enter_parsed.Goals as goal

pub entry_of-requires : goal.entry_of-requires
entry_of-requires c = let a = c.args in word_below a.words.now a.n c.requires.sound a.p c.requires.fit

pub returns : goal.returns
returns c = let a = c.args in
    entered-outcome a.words.now a.n c.requires.sound a.p c.requires.fit c.entry_of.result c.entry_of.ensures _ _ c.enter.ensures c.answer_of.result c.answer_of.ensures
