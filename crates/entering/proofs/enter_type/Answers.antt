-- `entering::enter_type` meets its contract: unsound, not allowed, no room, or entered. Assumes nothing.
use mathlib.Core.Path.{sym, ◌∙◌}
use Rattle.table.proofs.SoundLaws.{sound-of}
use Rattle.table.proofs.EnterCases.{host-unsound, host-forbidden, host-entered}
use Rattle.entering.proofs.enter_type.Goals as goal

pub returns-then-not-sound : goal.returns-then-not-sound
returns-then-not-sound c =
    let a = c.args in
    rw c.refused.ensures.made (host-unsound a.words.now a.n a.e (sym c.sound.ensures ∙ c.if-not-sound.true))

pub allowed-requires : goal.allowed-requires
allowed-requires c =
    let a = c.args in
    sound-of a.words.now a.n (sym c.sound.ensures ∙ c.if-not-sound.false)

pub returns-then-not-allowed : goal.returns-then-not-allowed
returns-then-not-allowed c =
    let a = c.args in
    rw c.refused-then-not-allowed.ensures.made
    (host-forbidden a.words.now a.n a.e (sym c.sound.ensures ∙ c.if-not-sound.false) (sym c.allowed.ensures ∙ c.if-not-allowed.true))

pub enter-requires : goal.enter-requires
enter-requires c =
    let a = c.args in
    sound-of a.words.now a.n (sym c.sound.ensures ∙ c.if-not-sound.false)

pub returns : goal.returns
returns c =
    let a = c.args in
    rw c.answer_of.ensures
    (host-entered a.words.now a.n a.e (sym c.sound.ensures ∙ c.if-not-sound.false) (sym c.allowed.ensures ∙ c.if-not-allowed.false) _ _
    c.enter.ensures)
