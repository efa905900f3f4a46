-- The rules of one operand that look at no value, by their numbers: arrayLength, workgroupUniformLoad, unary `&` and `*`. Assumes nothing.
use Rattle.std.specs.Prelude.{ℕ, Bool, ◌||◌, eqb}

abbrev pub alone : ℕ → Bool
alone rule = eqb rule 101 || eqb rule 108 || eqb rule 109 || eqb rule 110
