-- `spell::spell` meets its contract: the table is judged, and the rest is `spell_in`. Assumes nothing.
use mathlib.Core.Path.{sym, ◌∙◌}
use Rattle.table.proofs.SoundLaws.{sound-of}
use Rattle.spell.proofs.Outcomes.{at-unsound}
use Rattle.spell.proofs.spell.Goals as goal

pub returns-then-not-sound : goal.returns-then-not-sound
returns-then-not-sound c = rw c.refused.ensures (at-unsound _ _ _ _ (sym c.sound.ensures ∙ c.if-not-sound.true))

pub spell_in-requires : goal.spell_in-requires
spell_in-requires c = sound-of _ _ (sym c.sound.ensures ∙ c.if-not-sound.false)

pub returns : goal.returns
returns c = c.spell_in.ensures
