-- `ops_ty::answer_binary` meets its contract: 1, then 2 from left to right, then the call. Assumes nothing.
use native.Mathlib.Omega.{arith}
use mathlib.Core.Path.{sym, ◌∙◌}
use Rattle.table.proofs.SoundLaws.{sound-of}
use Rattle.ruled.proofs.Outcomes.{gave-as, gave-refused}
use Rattle.ops_ty.proofs.Ways.{binary-unsound, binary-beyond, binary-beyond-2, binary-call}
use Rattle.ops_ty.proofs.answer_binary.Goals as goal

pub returns-then-not-sound : goal.returns-then-not-sound
returns-then-not-sound c =
    let a = c.args in
    gave-as (binary-unsound a.words.now a.n a.op a.a a.b (sym c.sound.ensures ∙ c.if-not-sound.true)) (gave-refused _ _ a.words.now a.n c.refused.ensures)

pub returns-then-n-number : goal.returns-then-n-number
returns-then-n-number c =
    let a = c.args in
    gave-as
    (binary-beyond a.words.now a.n a.op a.a a.b (sym c.sound.ensures ∙ c.if-not-sound.false) (omega (arith, c.number.ensures, c.if-n-number.true)))
    (gave-refused _ _ a.words.now a.n c.refused-then-n-number.ensures)

pub returns-then-n-number-2 : goal.returns-then-n-number-2
returns-then-n-number-2 c =
    let a = c.args in
    gave-as
    (binary-beyond-2 a.words.now a.n a.op a.a a.b (sym c.sound.ensures ∙ c.if-not-sound.false) (omega (arith, c.number.ensures, c.if-n-number.false)) (omega (arith, c.number-2.ensures, c.if-n-number-2.true)))
    (gave-refused _ _ a.words.now a.n c.refused-then-n-number-2.ensures)

pub binary_at-requires : goal.binary_at-requires
binary_at-requires c =
    let a = c.args in (
      sound-of a.words.now a.n (sym c.sound.ensures ∙ c.if-not-sound.false),
      omega (arith, c.number.ensures, c.if-n-number.false),
      omega (arith, c.number-2.ensures, c.if-n-number-2.false),
    )

pub returns : goal.returns
returns c =
    let a = c.args in
    gave-as
    (binary-call a.words.now a.n a.op a.a a.b (sym c.sound.ensures ∙ c.if-not-sound.false) (omega (arith, c.number.ensures, c.if-n-number.false)) (omega (arith, c.number-2.ensures, c.if-n-number-2.false)))
    c.binary_at.ensures
