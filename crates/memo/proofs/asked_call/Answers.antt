-- `memo::asked_call` meets its contract: the call asks by the row where its name stands, and what is written is a hint. Assumes nothing.
use Rattle.names.specs.inner.Table.{StandsAt}
use Rattle.frame.proofs.Parts.{name-bytes}
use Rattle.frame.specs.inner.Items.{sheet_in}
use Prim.Native.Nat.{ℕ}
use Rattle.std.proofs.Common.{Some}
use mathlib.Core.List.{List}
use mathlib.Core.Path.{subst}
use Rattle.memo.proofs.asked_call.Goals as goal

pub returns : goal.returns
returns c = let a = c.args in
    let row = c.in_ok-row.row in
    let b = name-bytes a.items.version a.items.bytes.now a.name c.requires.0 c.name-bytes.ensures.bytes in
    (c.asked_row.ensures (sheet_in a.items) a.name (subst (λ (y : List ℕ). StandsAt y (Some row)) b c.in_ok-row.ensures), c.set_hint.ensures)
