-- `names::Names::find` meets its contract: a name that is longer than a line, or ends with a blank, stands in no row. Assumes nothing.
use mathlib.Core.Path.{sym, ◌∙◌}
use Rattle.names.specs.inner.Table.{StandsAt}
use Rattle.names.proofs.Found.{too_long, blank-end}
use Rattle.names.proofs.Names.find.Goals.{then-name-gt-NAME_WIDTH-via-then-name-gt-NAME_WIDTH, then-name-gt-NAME_WIDTH-via-else-name-gt-NAME_WIDTH+then-ends_blank}
use Rattle.names.proofs.Names.find.Goals as goal

pub returns-then-name-gt-NAME_WIDTH : goal.returns-then-name-gt-NAME_WIDTH
unfolding StandsAt
returns-then-name-gt-NAME_WIDTH c =
    elim c.then-name-gt-NAME_WIDTH.branch [
      | then-name-gt-NAME_WIDTH-via-then-name-gt-NAME_WIDTH w ↦ too_long c.args.name.now w.if-name-gt-NAME_WIDTH.true
      | then-name-gt-NAME_WIDTH-via-else-name-gt-NAME_WIDTH+then-ends_blank w ↦ blank-end c.args.name.now (sym w.ends_blank.ensures ∙ w.if-ends_blank.true)
    ]
