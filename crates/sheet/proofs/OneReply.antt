-- No second answer, and no other words afterwards, meet the promise of `type_sheet`: it names both. Assumes nothing.
use Prim.Native.Nat.{ℕ}
use mathlib.Core.Path.{◌≡◌}
use mathlib.Core.List.{List}
use Rattle.table.specs.Placing.{GaveMarked}
use Rattle.answer.specs.declared.Typed.{Typed}
use Rattle.table.proofs.OneReply.{gave-marked-one}
use Rattle.sheet.specs.Machine.{type_sheet, sheet_runs}

pub sheet-one : (profile : ℕ) (w : List ℕ) (n : ℕ) (s : List ℕ) (a b : Typed) (v u : List ℕ) → GaveMarked (type_sheet profile w n s) (sheet_runs profile w n s) a v → GaveMarked (type_sheet profile w n s) (sheet_runs profile w n s) b u → (a ≡ b) × (v ≡ u)
sheet-one profile w n s a b v u = gave-marked-one (type_sheet profile w n s) (sheet_runs profile w n s) a b v u
