-- What is asked of a sheet, from the item that is told. Assumes nothing.
use Prim.Native.Nat.{ℕ}
use mathlib.Core.Path.{refl, sym, subst}
use mathlib.Core.List.{List}
use lib.ListN.{length}
use Rattle.table.specs.Table.{scalars}
use Rattle.frame.specs.Frame.{name_of, name_part, Within}
use Rattle.frame.specs.declared.Placed.{Placed}
use Rattle.frame.proofs.FrameLaws.{name-within}
use Rattle.step.specs.inner.Code.{state_of, Ready}
use Rattle.lines.specs.Lines.{start, outcome}
use Rattle.desk.specs.declared.Query.{Query}
use Rattle.std.proofs.Common.{Option, Some, None}
use Rattle.desk.specs.declared.Stand.{Stand}
use Rattle.desk.specs.Told.{Told, told_of}
use Rattle.desk.specs.Desk.{item_lines, lines_of, desk_pieces}
use Rattle.desk.specs.inner.Code.{told_by, Standing, Finds, Queries}

module _ (profile : ℕ) (s vals w : List ℕ) where
  abbrev told : Told
  told = told_of profile start scalars s (outcome profile s).answer

  pub tell-nothing : Finds s told None vals w → Queries (desk_pieces profile s) None vals w
  unfolding desk_pieces lines_of told_by
  tell-nothing f = subst (λ (t : Told). Queries (lines_of profile s t) None vals w) f.told (record { asking = tt; pieces = refl })

  module _ (r : Stand) (f : Finds s told (Some r) vals w) where
    pub tell-item : (q : Option Query) → Queries (item_lines profile s (state_of r.count vals r.used w) r.placed.item) q vals w → Queries (desk_pieces profile s) q vals w
    unfolding desk_pieces lines_of told_by
    tell-item q g = subst (λ (t : Told). Queries (lines_of profile s t) q vals w) f.told g

    -- a name that the item shows lies in the sheet
    pub item-ready : Ready r.count vals r.used w × Within (length s) (name_of r.placed.item)
    unfolding Standing name_part
    item-ready = (f.standing.0, subst (λ (y : Placed). Within (length s) (name_of y.item)) (sym f.standing.1) (name-within s r.placed.at.0))
