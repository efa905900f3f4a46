-- `tplt::is_element` meets its contract: the kind of an entry tells of its type. Assumes nothing.
use Rattle.tplt.proofs.TemplateLaws.{element-at}
use Rattle.tplt.proofs.is_element.Goals as goal

pub returns : goal.returns
returns c = element-at c.args.words.now c.args.n c.requires.sound c.args.t.0 c.requires.t_lt_n c.entry_at-e.result c.entry_at-e.ensures
