-- `entering::enter` meets its contract: found, no room, or written as the next entry. Assumes nothing.
use mathlib.Core.Path.{◌≡◌, sym, ◌∙◌, ap}
use native.Mathlib.Omega.{arith}
use Rattle.std.specs.Prelude.{None, Err}
use Rattle.std.proofs.lemmas.Result.{err_from_is_err_and}
use Rattle.table.proofs.EnterCases.{free-room, enter-found, enter-full, enter-new}
use Rattle.table.specs.Enter.{lacks, lacking}
use Rattle.table.specs.Table.{find_in}
use Rattle.entering.proofs.enter.Goals as goal

pub returns-in-Some : goal.returns-in-Some
returns-in-Some c = let a = c.args in
    enter-found a.words.now a.n a.e _ (sym c.find.ensures ∙ c.in-Some.is)

pub returns-in_err-room_for : goal.returns-in_err-room_for
returns-in_err-room_for c = let a = c.args in
    let h : find_in a.words.now a.n a.e ≡ None = sym c.find.ensures ∙ c.in_default.is in
    let l = c.in_err-room_for.ensures.lacks in
    let x = err_from_is_err_and c.from_residual.result c.from_residual.ensures.1 in
    let r : c.from_residual.result ≡ lacks (lacking a.words.now a.n 1) = x.1 ∙ ap Err x.2 ∙ ap lacks l.1 in
    rw r (enter-full a.words.now a.n a.e h l.0)

pub put_entry-requires : goal.put_entry-requires
put_entry-requires c = let a = c.args in
    let room = (free-room a.words.now a.n 1 (omega arith) c.in_ok-room_for.ensures.room).1 in
    omega (arith, room)

pub returns : goal.returns
returns c = let a = c.args in
    let h : find_in a.words.now a.n a.e ≡ None = sym c.find.ensures ∙ c.in_default.is in
    let z = enter-new a.words.now a.n a.e h c.in_ok-room_for.ensures.room in
    record { reply = z.reply; words = c.put_entry.ensures ∙ z.words }
