-- `call_ty::type_builtin_fn` meets its contract: 1, then 2 over both lists, then the call. Assumes nothing.
use mathlib.Core.Path.{sym, ◌∙◌}
use Rattle.table.proofs.SoundLaws.{sound-of}
use Rattle.call_ty.specs.Calls.{numbers}
use Rattle.call_ty.proofs.Ways.{gave-as-marked, gave-unmarked, single-unsound, single-template, single-operand, single-call}
use Rattle.call_ty.proofs.Lists.{all_under_lem}
use Rattle.call_ty.proofs.type_builtin_fn.Goals as goal

pub returns-then-not-sound : goal.returns-then-not-sound
returns-then-not-sound c =
    let a = c.args in
    gave-as-marked (single-unsound a.profile a.words.now a.n a.name.now a.tplt.now a.args.now (sym c.sound.ensures ∙ c.if-not-sound.true)) (gave-unmarked _ 0 a.words.now a.n _ _ c.unmarked.ensures)

pub returns-then-not-all_types : goal.returns-then-not-all_types
returns-then-not-all_types c =
    let a = c.args in
    gave-as-marked (single-template a.profile a.words.now a.n a.name.now a.tplt.now a.args.now (sym c.sound.ensures ∙ c.if-not-sound.false) (sym c.all_types.ensures ∙ c.if-not-all_types.true)) (gave-unmarked _ 0 a.words.now a.n _ _ c.unmarked-then-not-all_types.ensures)

pub returns-then-not-all_operands : goal.returns-then-not-all_operands
returns-then-not-all_operands c =
    let a = c.args in
    gave-as-marked (single-operand a.profile a.words.now a.n a.name.now a.tplt.now a.args.now (sym c.sound.ensures ∙ c.if-not-sound.false) (sym c.all_types.ensures ∙ c.if-not-all_types.false) (sym c.all_operands.ensures ∙ c.if-not-all_operands.true)) (gave-unmarked _ 0 a.words.now a.n _ _ c.unmarked-then-not-all_operands.ensures)

pub call_at-requires : goal.call_at-requires
call_at-requires c =
    let a = c.args in (
      sound-of a.words.now a.n (sym c.sound.ensures ∙ c.if-not-sound.false),
      all_under_lem a.n a.tplt.now (sym c.all_types.ensures ∙ c.if-not-all_types.false),
      all_under_lem a.n (numbers a.args.now) (sym c.all_operands.ensures ∙ c.if-not-all_operands.false),
    )

pub returns : goal.returns
returns c =
    let a = c.args in
    gave-as-marked (single-call a.profile a.words.now a.n a.name.now a.tplt.now a.args.now (sym c.sound.ensures ∙ c.if-not-sound.false) (sym c.all_types.ensures ∙ c.if-not-all_types.false) (sym c.all_operands.ensures ∙ c.if-not-all_operands.false))
    c.call_at.ensures
