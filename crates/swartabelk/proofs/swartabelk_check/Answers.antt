-- `swartabelk::swartabelk_check` meets its contract: a sound table, or one that is not. Assumes nothing.
use Rattle.swartabelk.proofs.Fitting.{sound-fits, unsound-fits, sound-check, unsound-check}
use Rattle.swartabelk.specs.Reply.{reply_of}
use Rattle.answer.specs.Answer.{marked_by}
use Rattle.answer.specs.declared.Answer.{Answer}
use Rattle.swartabelk.specs.declared.Reply.{Reply}
use mathlib.Core.Bool.{false}
use native.Mathlib.Omega.{arith}
use mathlib.Core.Path.{sym, ◌∙◌, ap}
use Rattle.swartabelk.proofs.swartabelk_check.Goals as goal

-- the reply of an answer without a mark
abbrev const : Answer → Reply
const a = reply_of (marked_by false a)

pub const_reply-requires : goal.const_reply-requires
const_reply-requires c = let a = c.args in sound-fits a.words.now a.used _ c.word-n.ensures _ (omega (arith, c.ranges.used)) c.no_value.ensures.made

pub returns-then-sound : goal.returns-then-sound
returns-then-sound c = let a = c.args in c.const_reply.ensures ∙ ap const (sound-check a.words.now a.used _ c.word-n.ensures _ (sym c.sound.ensures ∙ c.if-sound.true) c.no_value.ensures.made)

pub const_reply-requires-2 : goal.const_reply-requires-2
const_reply-requires-2 c = let a = c.args in unsound-fits a.words.now a.used _ c.word-n.ensures _ (omega (arith, c.ranges.used)) c.refused.ensures.made

pub returns : goal.returns
returns c = let a = c.args in c.const_reply-2.ensures ∙ ap const (unsound-check a.words.now a.used _ c.word-n.ensures _ (sym c.sound.ensures ∙ c.if-sound.false) c.refused.ensures.made)
