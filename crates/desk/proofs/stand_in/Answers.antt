-- `desk::stand_in` meets its contract: nothing is told where the header is not right; else the search over the part after it (`Headers`). Assumes nothing.
use Prim.Native.Nat.{ℕ, ◌≤◌}
use mathlib.Core.List.{List}
use mathlib.Core.Path.{sym, ◌∙◌, subst}
use lib.ListN.{length}
use borrow.Author.Rules.{rules}
use Rattle.lines.specs.Lines.{start}
use Rattle.table.specs.Table.{scalars, Sound}
use Rattle.frame.specs.Frame.{header_size}
use Rattle.lines.proofs.Valued.{start-sound}
use Rattle.table.proofs.SoundLaws.{sound-of}
use Rattle.frame.proofs.Parts.{rest-alike}
use Rattle.frame.proofs.FrameLaws.{headed-long}
use Rattle.desk.proofs.Headers.{finds-alike, finds-nothing}
use Rattle.desk.proofs.stand_in.Goals as goal

pub returns-then-not-header : goal.returns-then-not-header
returns-then-not-header c = finds-nothing c.args.profile c.args.sheet.now (sym c.header.ensures ∙ c.if-not-header.true) c.args.stack.now c.args.words.now

pub bounds-sheet-0 : goal.bounds-sheet-0
bounds-sheet-0 c = let h : header_size ≤ length c.args.sheet.now = headed-long _ (sym c.header.ensures ∙ c.if-not-header.false) in search rules

pub slice_bounds-items-count : goal.slice_bounds-items-count
slice_bounds-items-count c = let h : header_size ≤ length c.args.sheet.now = headed-long _ (sym c.header.ensures ∙ c.if-not-header.false) in search rules

pub slice_bounds-items-start : goal.slice_bounds-items-start
slice_bounds-items-start c = let h : header_size ≤ length c.args.sheet.now = headed-long _ (sym c.header.ensures ∙ c.if-not-header.false) in search rules

pub find-requires : goal.find-requires
find-requires c = (subst (λ (w : List ℕ). Sound w scalars) (sym c.requires.0) (sound-of start scalars start-sound), c.requires.1)

pub returns : goal.returns
returns c = let a = c.args in
    let h = headed-long _ (sym c.header.ensures ∙ c.if-not-header.false) in
    finds-alike a.profile _ _ a.sheet.now (rest-alike a.sheet.now h) start scalars c.find.result _ _ (rw (c.requires.0, c.answer_of-a.ensures) at c.find.ensures)
