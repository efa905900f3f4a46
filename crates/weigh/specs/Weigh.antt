-- Document 02, K7: which operand a reason names. Places are counted from 0. Assumes nothing.
use Rattle.std.specs.Prelude.{ℕ, suc, ◌<◌, Bool, cond, nat_lt, Option, Some, None, List, [], ◌∷◌, length, get_or}
use Rattle.conv.specs.Types.{Ty}
use Rattle.conv.specs.Rank.{converts}

-- the place of the first that passes a test, or how many there are where none does
unfoldable pub first_by : {A : Type 0} → (A → Bool) → List A → ℕ
first_by g [] = 0
first_by g (x ∷ xs) = cond (g x) 0 (suc (first_by g xs))

-- "the first operand that does not convert": its place, by the parameters and the operands, or how many there are where all convert
unfoldable pub first_miss : List Ty → List Ty → ℕ
first_miss [] ts = 0
first_miss (p ∷ ps) [] = 0
first_miss (p ∷ ps) (t ∷ ts) = cond (converts t p) (suc (first_miss ps ts)) 0

-- a place among n as the code answers it: nothing where the number is n, that is where none of them is meant
abbrev pub place_in : ℕ → ℕ → Option ℕ
place_in n k = cond (nat_lt k n) (Some k) None

-- operands' numbers that are those of scalars, vectors and matrices, as every parameter of a row is
abbrev pub Shaped : List ℕ → Type 0
Shaped ps = (k : ℕ) → k < length ps → get_or ps k 0 < 91
