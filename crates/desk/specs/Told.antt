-- Document 02, K7, "the tool for a desk": the one item of a sheet whose lines are told, and the state in which it stands. Assumes nothing.
use Rattle.std.specs.Prelude.{ℕ, Bool, ◌&&◌, cond, List, [], ◌∷◌, length, eqb}
use Rattle.answer.specs.Answer.{reason_no}
use Rattle.answer.specs.declared.Answer.{Answer}
use Rattle.answer.specs.declared.Answer.TheVariants.{Value, NoValue, Refused}
use Rattle.frame.specs.Frame.{is_item, items_from, header_size}
use Rattle.frame.specs.declared.Item.{Item}
use Rattle.frame.specs.declared.Placed.{Placed}
use Rattle.step.specs.Effect.{State}
use Rattle.sheet.specs.Machine.{Turned, more, done, turn_of, begun}

-- "where the sheet was refused with 8, .. the item that was refused; where it is accepted, .. its last item", which is the item that ends where the sheet of `size` bytes ends
unfoldable pub is_told : Answer → ℕ → Placed → Bool
is_told (Value t used) size x = is_item x.item && eqb x.next.0 size
is_told (NoValue used) size x = is_item x.item && eqb x.next.0 size
is_told (Refused r) size x = eqb (reason_no r.reason) 8 && eqb x.at.0 r.place.0

-- no item; or an item, and the state of the machine before it
pub data Told : Type 0 where
  nothing : Told
  before : State → Item → Told

-- the items one after the other as the machine goes, to the one that is told, which is not run
unfoldable pub going_on : Turned → (State → Told) → Told
going_on (more st) go = go st
going_on (done o) go = nothing

unfoldable pub told_in : ℕ → List ℕ → Answer → List Placed → State → Told
told_in profile s a [] st = nothing
told_in profile s a (x ∷ xs) st = cond (is_told a (length s) x) (before st x.item) (going_on (turn_of profile s x st) (told_in profile s a xs))

-- of the sheet s with this answer, over a table of n entries
abbrev pub told_of : ℕ → List ℕ → ℕ → List ℕ → Answer → Told
told_of profile w n s a = told_in profile s a (items_from s header_size) (begun w n)
