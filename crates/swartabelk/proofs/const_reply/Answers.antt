-- `swartabelk::const_reply` meets its contract: the answer stays, and its mark is that of a const. Assumes nothing.
use Rattle.swartabelk.specs.Reply.{reply_of}
use Rattle.swartabelk.specs.inner.Code.{Fits}
use Rattle.answer.specs.declared.Typed.{Typed}
use mathlib.Core.Path.{◌∙◌, sym, ap, subst}
use Rattle.swartabelk.proofs.const_reply.Goals as goal

pub reply_of-requires : goal.reply_of-requires
reply_of-requires c = subst Fits (sym (ap (λ (x : Typed). x.answer) c.marked.ensures)) c.requires

pub returns : goal.returns
returns c = c.reply_of.ensures ∙ ap reply_of c.marked.ensures
