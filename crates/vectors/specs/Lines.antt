-- Lines of bytes, and the count of rows that agree. Assumes nothing.
use Rattle.std.specs.Prelude.{ℕ, suc, ◌+◌, ◌%◌, ◌^◌, Bool, cond, List, [], ◌∷◌, drop, ◌==◌}

abbrev pub line_end_byte : ℕ
line_end_byte = 10

-- how many bytes stand before the first line end
unfoldable pub line_length : List ℕ → ℕ
line_length [] = 0
line_length (b ∷ bs) = cond (b == line_end_byte) 0 (suc (line_length bs))

-- where the line that begins at a place ends
abbrev pub line_end : List ℕ → ℕ → ℕ
line_end s at = at + line_length (drop at s)

-- a byte more at the front of the first line
abbrev pub with_byte : ℕ → List (List ℕ) → List (List ℕ)
with_byte b [] = (b ∷ []) ∷ []
with_byte b (l ∷ ls) = (b ∷ l) ∷ ls

-- the lines of some bytes, without their ends; the last one may have none
unfoldable pub lines_of : List ℕ → List (List ℕ)
lines_of [] = []
lines_of (b ∷ bs) = cond (b == line_end_byte) ([] ∷ lines_of bs) (with_byte b (lines_of bs))

-- one more where a row agreed
abbrev pub counted_of : ℕ → Bool → ℕ
counted_of n agreed = cond agreed ((n + 1) % 2 ^ 64) n
