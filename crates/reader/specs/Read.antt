-- Document 01, "The sheet": a reader that keeps the lent sheet and its place together. Assumes nothing.
use Rattle.std.specs.Prelude.{ℕ, ◌≡◌, true, false, List, [], ◌∷◌}
use Rattle.std.specs.Borrow.{Bor}
use Rattle.frame.specs.Frame.{item_at, is_item, header_size, place}
use Rattle.frame.specs.declared.Placed.{Placed}
use Rattle.reader.specs.declared.Reader.{Reader}
use Rattle.reader.specs.declared.Step.{Step}

-- items begin at byte 3
abbrev pub start_of : Bor (List ℕ) → Reader
start_of sheet = record { sheet = sheet; at = place header_size }

-- what stands at the reader's place, and the same sheet at the next place, which is the same where no item stands
abbrev pub step_of : Reader → Step
step_of r = record {
  found = item_at r.sheet.now r.at.0;
  rest = record { sheet = r.sheet; at = (item_at r.sheet.now r.at.0).next };
}

-- what a reader finds, step after step, until no item stands
pub data Visits : Reader → List Placed → Type 0 where
  last : (r : Reader) → is_item (step_of r).found.item ≡ false → Visits r ((step_of r).found ∷ [])
  more : (r : Reader) (l : List Placed) → is_item (step_of r).found.item ≡ true → Visits (step_of r).rest l → Visits r ((step_of r).found ∷ l)
