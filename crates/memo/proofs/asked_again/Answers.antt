-- `memo::asked_again` meets its contract: a row that has the name is where it stands. Assumes nothing.
use Rattle.names.proofs.Found.{has-stands}
use Rattle.names.specs.inner.Table.{StandsAt}
use Rattle.frame.proofs.Parts.{name-bytes}
use Rattle.frame.specs.inner.Items.{sheet_in}
use Prim.Native.Nat.{ℕ}
use Rattle.std.proofs.Common.{Some}
use mathlib.Core.List.{List}
use mathlib.Core.Path.{sym, ◌∙◌, subst}
use Rattle.memo.proofs.asked_again.Goals as goal

pub returns : goal.returns
returns c = let a = c.args in
    let row = c.hint-row.result in
    let stands = has-stands _ _ (sym c.has_name.ensures ∙ c.if-not-has_name.false) in
    c.asked_row.ensures (sheet_in a.items) a.name (subst (λ (y : List ℕ). StandsAt y (Some row)) (name-bytes a.items.version a.items.bytes.now a.name c.requires.0 c.name-bytes.ensures.bytes) stands)
