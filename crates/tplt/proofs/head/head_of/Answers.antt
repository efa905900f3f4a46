-- `tplt::head::head_of` meets its contract: a long name is none, and any other is the head of its number. Assumes nothing.
use mathlib.Core.Path.{◌∙◌, ap}
use Rattle.tplt.specs.Heads.{heads}
use Rattle.tplt.specs.inner.Steps.{head_at}
use Rattle.tplt.proofs.HeadLaws.{long-name, head-key}
use Rattle.tplt.proofs.head.head_of.Goals as goal

pub returns-then-name-gt-LONGEST : goal.returns-then-name-gt-LONGEST
returns-then-name-gt-LONGEST c = long-name c.args.name.now c.if-name-gt-LONGEST.true

pub returns : goal.returns
returns c =
    c.head_at.ensures ∙ ap (head_at heads) c.key_of.ensures
    ∙ head-key c.args.name.now c.shared_slice_known-1.given
