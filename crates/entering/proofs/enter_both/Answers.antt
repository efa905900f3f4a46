-- `entering::enter_both` meets its contract: no room, or both written. Assumes nothing.
use mathlib.Core.Path.{◌≡◌, ◌∙◌, ap}
use native.Mathlib.Omega.{arith}
use lib.ListN.{length}
use Rattle.std.specs.Prelude.{Err}
use Rattle.std.proofs.lemmas.Result.{err_from_is_err_and}
use Rattle.table.proofs.EnterCases.{free-room, two-full, two-new}
use Rattle.table.proofs.SoundLaws.{put-length}
use Rattle.table.specs.Enter.{lacks, lacking}
use Rattle.entering.proofs.enter_both.Goals as goal

pub returns-in_err-room_for : goal.returns-in_err-room_for
returns-in_err-room_for c = let a = c.args in
    let l = c.in_err-room_for.ensures.lacks in
    let x = err_from_is_err_and c.from_residual.result c.from_residual.ensures.1 in
    let r : c.from_residual.result ≡ lacks (lacking a.words.now a.n 2) = x.1 ∙ ap Err x.2 ∙ ap lacks l.1 in
    rw r (two-full a.words.now a.n a.inner a.outer c.requires.0 c.requires.1 l.0)

pub put_entry-requires : goal.put_entry-requires
put_entry-requires c = let a = c.args in
    let r = free-room a.words.now a.n 2 (omega arith) c.in_ok-room_for.ensures.room in
    omega (arith, r.1)

pub put_entry-requires-2 : goal.put_entry-requires-2
put_entry-requires-2 c = let a = c.args in
    let r = free-room a.words.now a.n 2 (omega arith) c.in_ok-room_for.ensures.room in
    let h : length c.put_entry.new.words ≡ length a.words.now = ap length c.put_entry.ensures ∙ put-length a.words.now a.n a.inner in
    omega (arith, r.1, h)

pub returns : goal.returns
returns c = let a = c.args in
    let z = two-new a.words.now a.n a.inner a.outer c.requires.0 c.requires.1 c.in_ok-room_for.ensures.room in
    record { reply = z.reply; words = rw (c.put_entry-2.ensures, c.container_of.ensures, c.put_entry.ensures) z.words }
