-- Document 02, K7: what lines about overloads are made of. Operands are counted from 1 in the text, and from 0 here. Assumes nothing.
use Rattle.std.specs.Prelude.{ℕ, ◌+◌, cond, List, [], ◌∷◌, ◌++◌, map, eqb, length}
use Rattle.text.specs.Text.{ascii, decimal}
use Rattle.conv.specs.Types.{Ty}
use Rattle.conv.specs.Rank.{conversion_rank}
use Rattle.spell.specs.Spell.{spelling}

-- texts with something between two of them
unfoldable pub behind : List ℕ → List (List ℕ) → List ℕ
behind gap [] = []
behind gap (s ∷ ss) = gap ++ s ++ behind gap ss

unfoldable pub apart : List ℕ → List (List ℕ) → List ℕ
apart gap [] = []
apart gap (s ∷ ss) = s ++ behind gap ss

-- "Parameters are spelled, set apart by a comma and a blank, in parentheses"
unfoldable pub signature : List Ty → List ℕ
signature ps = ascii "(" ++ apart (ascii ", ") (map spelling ps) ++ ascii ")"

-- `operand 1 is `, of the operand at place 0
unfoldable pub operand_at : ℕ → List ℕ
operand_at k = (ascii "operand " ++ decimal (k + 1)) ++ ascii " is "

-- the rank of each operand's conversion to its parameter
unfoldable pub ranks_of : List Ty → List Ty → List ℕ
ranks_of [] ts = []
ranks_of (p ∷ ps) [] = []
ranks_of (p ∷ ps) (t ∷ ts) = conversion_rank t p ∷ ranks_of ps ts

-- `, ranks 3 3 0`; "with one operand `rank 3`"; without, nothing
unfoldable pub ranks_word : ℕ → List ℕ
ranks_word k = cond (eqb k 0) [] (cond (eqb k 1) (ascii ", rank ") (ascii ", ranks "))

unfoldable pub ranks_text : List ℕ → List ℕ
ranks_text rs = ranks_word (length rs) ++ apart (ascii " ") (map decimal rs)
