-- `table::abstract_at` meets its contract: a type is abstract at any depth where its innermost scalar is. Assumes nothing.
use mathlib.Core.Path.{◌∙◌, ap}
use Rattle.conv.specs.Types.{is_abstract}
use Rattle.table.proofs.FormedLaws.{abstract-at}
use Rattle.table.proofs.abstract_at.Goals as goal

pub returns : goal.returns
returns c =
    let a = c.args in
    c.is_abstract.ensures ∙ ap is_abstract c.base_of.ensures ∙ abstract-at a.words.now a.n c.requires.0 a.t c.requires.1
