-- `sheet::type_sheet` meets its contract: 1, the header, the profile, then the run over the part after it (`Headers`). Assumes nothing.
use Prim.Native.Nat.{◌≤◌}
use mathlib.Core.Path.{sym, ◌∙◌, ap}
use mathlib.Core.Bool.{false}
use lib.ListN.{length}
use Rattle.answer.specs.Answer.{marked_by}
use Rattle.table.proofs.SoundLaws.{sound-of}
use Rattle.call_ty.proofs.Ways.{gave-as-marked, gave-unmarked}
use Rattle.sheet.proofs.Running.{sheet-unsound, sheet-unheaded, sheet-unprofiled, sheet-runs}
use Rattle.sheet.proofs.Headers.{gave-alike}
use Rattle.frame.proofs.Parts.{rest-alike}
use Rattle.frame.proofs.FrameLaws.{headed-long}
use Rattle.frame.specs.Frame.{header_size}
use borrow.Author.Rules.{rules}
use Rattle.sheet.proofs.type_sheet.Goals as goal

pub returns-then-not-sound : goal.returns-then-not-sound
returns-then-not-sound c = let a = c.args in
    gave-as-marked (sheet-unsound a.profile a.words.now a.n a.sheet.now (sym c.sound.ensures ∙ c.if-not-sound.true))
    (gave-unmarked _ 0 a.words.now a.n _ _ (c.unmarked.ensures ∙ ap (marked_by false) c.refused.ensures.made))

pub returns-then-not-header : goal.returns-then-not-header
returns-then-not-header c = let a = c.args in
    gave-as-marked (sheet-unheaded a.profile a.words.now a.n a.sheet.now (sym c.sound.ensures ∙ c.if-not-sound.false) (sym c.header.ensures ∙ c.if-not-header.true))
    (gave-unmarked _ 0 a.words.now a.n _ _ (c.unmarked-then-not-header.ensures ∙ ap (marked_by false) c.refused-then-not-header.ensures.made))

pub returns-then-profile-ge-PROFILES : goal.returns-then-profile-ge-PROFILES
returns-then-profile-ge-PROFILES c = let a = c.args in
    gave-as-marked (sheet-unprofiled a.profile a.words.now a.n a.sheet.now (sym c.sound.ensures ∙ c.if-not-sound.false) (sym c.header.ensures ∙ c.if-not-header.false) c.if-profile-ge-PROFILES.true)
    (gave-unmarked _ 0 a.words.now a.n _ _ (c.unmarked-then-profile-ge-PROFILES.ensures ∙ ap (marked_by false) c.refused-then-profile-ge-PROFILES.ensures.made))

pub bounds-sheet-0 : goal.bounds-sheet-0
bounds-sheet-0 c = let h : header_size ≤ length c.args.sheet.now = headed-long _ (sym c.header.ensures ∙ c.if-not-header.false) in search rules

pub slice_bounds-items-count : goal.slice_bounds-items-count
slice_bounds-items-count c = let h : header_size ≤ length c.args.sheet.now = headed-long _ (sym c.header.ensures ∙ c.if-not-header.false) in search rules

pub slice_bounds-items-start : goal.slice_bounds-items-start
slice_bounds-items-start c = let h : header_size ≤ length c.args.sheet.now = headed-long _ (sym c.header.ensures ∙ c.if-not-header.false) in search rules

pub run-requires : goal.run-requires
run-requires c = let a = c.args in sound-of a.words.now a.n (sym c.sound.ensures ∙ c.if-not-sound.false)

pub returns : goal.returns
returns c = let a = c.args in
    let k = sym c.header.ensures ∙ c.if-not-header.false in
    gave-as-marked (sheet-runs a.profile a.words.now a.n a.sheet.now (sym c.sound.ensures ∙ c.if-not-sound.false) k c.if-profile-ge-PROFILES.false)
    (gave-alike a.profile _ a.sheet.now (rest-alike a.sheet.now (headed-long _ k)) a.words.now a.n c.run.ensures)
