-- `overload::tables::family_word` meets its contract: a line for each family, whose digits antt computes. Assumes nothing.
use Rattle.std.proofs.Common.{get_or, refl}
use Rattle.conv.specs.Rank.{both}
use Rattle.overload.specs.Overload.{or}
use Rattle.overload.specs.Rows.{form_at, rows, row_at}
use Rattle.overload.specs.inner.Code as code
use Rattle.overload.specs.inner.Code.{Word, families}
use Rattle.overload.specs.declared.tables.TheConstants.{FAMILIES, NO_FAMILY}
use Rattle.overload.proofs.Lines.{read, same_lists, word_test, word-lines, no-word-line}
use Rattle.overload.proofs.tables.family_word.Goals as goal

pub returns : goal.returns
unfolding both or rows row_at form_at code.joined families code.family_of code.form_no code.component_no code.wrap_no code.pivot_no code.encode code.same_size same_lists word_test
returns c = read Word FAMILIES NO_FAMILY (word-lines 69 (λ k. get_or FAMILIES k NO_FAMILY) tt) (λ k h. no-word-line tt refl refl refl h) c.args.f _ c.line.ensures
