-- `memory::value_fits` meets its contract: a scalar converts as the board of ranks says, and nothing else. Assumes nothing.
use Rattle.memory.proofs.Fitting.{by_code}
use Rattle.held.specs.Held.{number_of}
use Rattle.table.specs.Denote.{type_at}
use Rattle.table.proofs.FormedLaws.{formed-at}
use Rattle.overload.specs.inner.Code.{code_of}
use Rattle.ruled.specs.Call.{operand_ty}
use borrow.Author.Tests.{le-ltb, lt-ltb}
use mathlib.Core.Path.{sym, ◌∙◌, ap}
use Rattle.std.specs.Prelude.{is_some}
use Rattle.conv.proofs.Answered.{rank-found}
use Rattle.memory.proofs.value_fits.Goals as goal

pub returns-then-x-ge-SCALARS : goal.returns-then-x-ge-SCALARS
returns-then-x-ge-SCALARS c = let a = c.args in
    let e = c.code_at-x.ensures ∙ ap (λ (i : _). code_of (type_at a.words.now i)) c.number.ensures in
    sym (by_code a.s (operand_ty a.words.now a.v) (formed-at a.words.now a.n c.requires.0 (number_of a.v) c.requires.1) ∙ rw (← e, le-ltb _ 7 c.if-x-ge-SCALARS.true))

pub returns : goal.returns
returns c = let a = c.args in
    let e = c.code_at-x.ensures ∙ ap (λ (i : _). code_of (type_at a.words.now i)) c.number.ensures in
    c.is_some.ensures ∙ ap is_some c.rank.ensures ∙ rank-found _ _ ∙ (sym (by_code a.s (operand_ty a.words.now a.v) (formed-at a.words.now a.n c.requires.0 (number_of a.v) c.requires.1) ∙ rw (← e, lt-ltb _ 7 c.if-x-ge-SCALARS.false)))
