-- `ops_ty::answer_unary` meets its contract: 1, then 2, then the call. Assumes nothing.
use native.Mathlib.Omega.{arith}
use mathlib.Core.Path.{sym, ◌∙◌}
use Rattle.table.proofs.SoundLaws.{sound-of}
use Rattle.ruled.proofs.Outcomes.{gave-as, gave-refused}
use Rattle.ops_ty.proofs.Ways.{unary-unsound, unary-beyond, unary-call}
use Rattle.ops_ty.proofs.answer_unary.Goals as goal

pub returns-then-not-sound : goal.returns-then-not-sound
returns-then-not-sound c =
    let a = c.args in
    gave-as (unary-unsound a.words.now a.n a.op a.a (sym c.sound.ensures ∙ c.if-not-sound.true)) (gave-refused _ _ a.words.now a.n c.refused.ensures)

pub returns-then-n-number : goal.returns-then-n-number
returns-then-n-number c =
    let a = c.args in
    gave-as (unary-beyond a.words.now a.n a.op a.a (sym c.sound.ensures ∙ c.if-not-sound.false) (omega (arith, c.number.ensures, c.if-n-number.true))) (gave-refused _ _ a.words.now a.n c.refused-then-n-number.ensures)

pub unary_at-requires : goal.unary_at-requires
unary_at-requires c =
    let a = c.args in
    (sound-of a.words.now a.n (sym c.sound.ensures ∙ c.if-not-sound.false), omega (arith, c.number.ensures, c.if-n-number.false))

pub returns : goal.returns
returns c =
    let a = c.args in
    gave-as (unary-call a.words.now a.n a.op a.a (sym c.sound.ensures ∙ c.if-not-sound.false) (omega (arith, c.number.ensures, c.if-n-number.false))) c.unary_at.ensures
